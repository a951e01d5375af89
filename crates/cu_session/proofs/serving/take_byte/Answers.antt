-- A byte of a line, or its end.
use Rattle.std.proofs.Common.{◌≡◌, ◌<◌, ◌++◌, ◌∷◌, Ok, length, ap, arith, subst, sym, ◌∙◌}
use Rattle.std.specs.declared.alloc.AllocError.{AllocError}
use Rattle.cu_session.specs.Lines.{has_long_line, lines_of, max_line_bytes, without_cr}
use Rattle.cu_session.specs.Inside.Parts.{IsBegun}
use Rattle.cu_session.proofs.LineLemmas.{begun_more, fits_with_lf, full_has_long, is_other, with_lf}
use Rattle.cu_session.proofs.AnswerLemmas.{full_ends, lf_err, lf_goes, lf_long, none_err}
use Rattle.cu_session.proofs.serving.take_byte.Goals as goal

pub returns-in_err-ended-clause-told : goal.returns-in_err-ended-clause-told
returns-in_err-ended-clause-told g c = λ state rest is.
    lf_err c.from_residual.result c.in_err-ended.field-0.0 g.A.Asker.answers state c.args.line.now.items c.args.byte rest (lines_of rest) (lines_of (c.args.line.now.items ++ rest)) (g.A.Asker.state c.answer.new.asker) (g.A.Asker.state c.answer.new.asker)
    (g.A.Asker.fault_count c.args.asker.now) (g.A.Asker.fault_count c.answer.new.asker) (g.A.Asker.fault_count c.args.asker.now) (g.A.Asker.fault_count c.answer.new.asker) (g.S.Sink.written c.args.sink.now) (g.S.Sink.written c.answer.new.sink)
    c.from_residual.ensures.0 c.if-byte-eq-LF.true c.requires.begun
    (c.in_err-ended.ensures.told state (with_lf c.args.line.now.items) (lines_of rest) is (fits_with_lf c.args.line.now.items c.requires.begun) (sym (c.without_cr.ensures ∙ ap without_cr c.deref.ensures.value)))

pub returns-then-byte-eq-LF-clause-told : goal.returns-then-byte-eq-LF-clause-told
returns-then-byte-eq-LF-clause-told g c = λ state rest is.
    lf_goes {E = AllocError} (Ok c.in_ok-ended.ended) g.A.Asker.answers state c.args.line.now.items c.clear.new.self.items c.args.byte rest (g.A.Asker.state c.answer.new.asker)
    (g.A.Asker.fault_count c.args.asker.now) (g.A.Asker.fault_count c.answer.new.asker) (g.S.Sink.written c.args.sink.now) (g.S.Sink.written c.answer.new.sink)
    c.if-byte-eq-LF.true c.requires.begun c.clear.ensures.items
    (c.in_ok-ended.ensures.told state (with_lf c.args.line.now.items) (lines_of rest) is (fits_with_lf c.args.line.now.items c.requires.begun) (sym (c.without_cr.ensures ∙ ap without_cr c.deref.ensures.value)))

pub returns-then-byte-eq-LF-clause-lines : goal.returns-then-byte-eq-LF-clause-lines
returns-then-byte-eq-LF-clause-lines g c = λ rest.
    lf_long {E = AllocError} (Ok c.in_ok-ended.ended) c.args.line.now.items c.clear.new.self.items c.args.byte rest c.if-byte-eq-LF.true c.requires.begun c.clear.ensures.items (c.in_ok-ended.ensures.lines (has_long_line rest))

pub returns-in_err-push-clause-told : goal.returns-in_err-push-clause-told
returns-in_err-push-clause-told g c = λ state rest is.
    none_err c.from_residual-in_err-push.result g.A.Asker.answers state (lines_of (c.args.line.now.items ++ c.args.byte ∷ rest)) (lines_of (c.push.new.self.items ++ rest)) (g.A.Asker.state c.args.asker.now)
    (g.A.Asker.fault_count c.args.asker.now) (g.A.Asker.fault_count c.args.asker.now) (g.S.Sink.written c.args.sink.now) c.from_residual-in_err-push.ensures.0

pub returns-then-len-eq-MAX_LINE_BYTES-clause-told : goal.returns-then-len-eq-MAX_LINE_BYTES-clause-told
returns-then-len-eq-MAX_LINE_BYTES-clause-told g c = λ state rest is.
    let full : length c.args.line.now.items ≡ max_line_bytes = omega (arith, c.if-len-eq-MAX_LINE_BYTES.true, c.len.ensures, c.args.line.now.ok.0) in
    full_ends g.A.Asker.answers state c.args.line.now.items c.args.byte rest (g.S.Sink.written c.args.sink.now) c.requires.begun (is_other c.args.byte c.if-byte-eq-LF.false) full

pub returns-then-len-eq-MAX_LINE_BYTES-clause-lines : goal.returns-then-len-eq-MAX_LINE_BYTES-clause-lines
returns-then-len-eq-MAX_LINE_BYTES-clause-lines g c = λ rest.
    let full : length c.args.line.now.items ≡ max_line_bytes = omega (arith, c.if-len-eq-MAX_LINE_BYTES.true, c.len.ensures, c.args.line.now.ok.0) in
    full_has_long c.args.line.now.items c.args.byte rest c.requires.begun (is_other c.args.byte c.if-byte-eq-LF.false) full

pub returns-clause-begun : goal.returns-clause-begun
returns-clause-begun g c =
    let below : length c.args.line.now.items < max_line_bytes = omega (arith, c.if-len-eq-MAX_LINE_BYTES.false, c.len.ensures, c.args.line.now.ok.0, c.requires.begun.fits) in
    subst IsBegun (sym c.in_ok-push.ensures.items) (begun_more c.args.line.now.items c.args.byte c.requires.begun (is_other c.args.byte c.if-byte-eq-LF.false) below)
