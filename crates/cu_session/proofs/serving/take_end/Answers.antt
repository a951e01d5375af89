-- The end of the input, and a last line without LF.
use Rattle.std.proofs.Common.{[], refl, sym, ◌∙◌}
use Rattle.cu_session.specs.Lines.{has_long_line}
use Rattle.cu_session.proofs.LineLemmas.{fits_without_lf, last_long, without_lf}
use Rattle.cu_session.proofs.EndLemmas.{last_answered, last_answered_lines, last_asker, last_err, last_sink, last_source, none_begun}
use Rattle.std.specs.declared.alloc.AllocError.{AllocError}
use Rattle.cu_session.proofs.serving.take_end.Goals as goal

pub returns-then-is_empty-clause-told : goal.returns-then-is_empty-clause-told
returns-then-is_empty-clause-told g c = λ state is.
    none_begun g.A.Asker.answers state c.args.line.now (g.S.Sink.written c.args.sink.now) (sym c.is_empty.ensures ∙ c.if-is_empty.true)

pub returns-then-is_empty-clause-lines : goal.returns-then-is_empty-clause-lines
returns-then-is_empty-clause-lines g c = last_long c.args.line.now c.requires.begun

pub returns-in_err-end-clause-told : goal.returns-in_err-end-clause-told
returns-in_err-end-clause-told g c = λ state is.
    last_err c.from_residual.result c.in_err-end.field-0.0 g.A.Asker.answers state c.args.line.now (g.A.Asker.state c.answer.new.asker)
    (g.A.Asker.fault_count c.args.asker.now) (g.A.Asker.fault_count c.answer.new.asker) (g.A.Asker.fault_count c.args.asker.now) (g.A.Asker.fault_count c.answer.new.asker) (g.S.Sink.written c.args.sink.now) (g.S.Sink.written c.answer.new.sink)
    c.from_residual.ensures.0 (sym c.is_empty.ensures ∙ c.if-is_empty.false) c.requires.begun
    (c.in_err-end.ensures.told state (without_lf c.args.line.now) [] is (fits_without_lf c.args.line.now c.requires.begun) refl)

pub returns-clause-told : goal.returns-clause-told
returns-clause-told g c = λ state is.
    last_answered AllocError g.A.Asker.answers state c.args.line.now c.in_ok-end.end c.unwrap_or.result (g.A.Asker.state c.answer.new.asker)
    (g.A.Asker.fault_count c.args.asker.now) (g.A.Asker.fault_count c.answer.new.asker) (g.S.Sink.written c.args.sink.now) (g.S.Sink.written c.answer.new.sink)
    (sym c.is_empty.ensures ∙ c.if-is_empty.false) c.requires.begun c.unwrap_or.ensures
    (c.in_ok-end.ensures.told state (without_lf c.args.line.now) [] is (fits_without_lf c.args.line.now c.requires.begun) refl)

pub returns-clause-lines : goal.returns-clause-lines
returns-clause-lines g c =
    last_answered_lines AllocError c.args.line.now c.in_ok-end.end c.unwrap_or.result c.requires.begun c.unwrap_or.ensures (c.in_ok-end.ensures.lines (has_long_line c.args.line.now))

pub returns-clause-sink_count : goal.returns-clause-sink_count
returns-clause-sink_count g c = last_sink AllocError c.in_ok-end.end c.unwrap_or.result _ _ c.unwrap_or.ensures c.in_ok-end.ensures.sink_count

pub returns-clause-source_count : goal.returns-clause-source_count
returns-clause-source_count g c = λ count. last_source AllocError c.in_ok-end.end c.unwrap_or.result count c.unwrap_or.ensures (c.in_ok-end.ensures.source_count count)

pub returns-clause-asker_stands : goal.returns-clause-asker_stands
returns-clause-asker_stands g c = last_asker AllocError c.in_ok-end.end c.unwrap_or.result _ _ c.unwrap_or.ensures c.in_ok-end.ensures.asker_stands
