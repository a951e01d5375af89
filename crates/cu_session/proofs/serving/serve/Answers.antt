-- The whole input, a read at a time.
use Rattle.std.proofs.Common.{◌≡◌, ◌++◌, ℕ, List, Ok, Some, ap, arith, refl, subst, sym, ◌∙◌}
use Rattle.std.specs.Option.{is_some}
use Rattle.std.specs.declared.alloc.AllocError.{AllocError}
use Rattle.cu_session.specs.Lines.{has_long_line, lines_of}
use Rattle.cu_session.specs.Inside.Parts.{GoesOn, IsBegun}
use Rattle.cu_session.proofs.LineLemmas.{begun_nothing}
use Rattle.cu_session.proofs.SessionLemmas.{goes_after, goes_nothing, prefixed_after}
use Rattle.cu_session.proofs.PieceLemmas.{asker_none, goes_none, keeps_none, ready_err, sink_none, source_none}
use Rattle.cu_session.proofs.EndLemmas.{asker_count_err, asker_some, goes_some, keeps_some, ok_err, sink_count_err, sink_some, source_count_err, source_some}
use Rattle.cu_session.proofs.serving.serve.Goals as goal

pub loop-line-init : goal.loop-line-init
loop-line-init g c =
    let none = sym c.new-line.ensures.items in
    record {
      told = λ text state is_text is. (
        text,
        is_text,
        subst (λ (line : List ℕ). GoesOn g.A.Asker.answers state (lines_of text) (lines_of (line ++ text)) (g.A.Asker.state c.args.asker.now) (g.S.Sink.written c.args.sink.now) (g.S.Sink.written c.args.sink.now)) none
            (goes_nothing g.A.Asker.answers (lines_of text) (g.A.Asker.state c.args.asker.now) state (g.S.Sink.written c.args.sink.now) is),
      );
      lines = λ text is_text. (text, is_text, ap (λ (line : List ℕ). has_long_line (line ++ text)) c.new-line.ensures.items);
      begun = subst IsBegun none begun_nothing;
      ready = c.requires;
      kept = refl;
      asker_stands = refl;
      asker_count = omega arith;
      source_count = refl;
      sink_count = refl;
    }

pub loop-line-preserved : goal.loop-line-preserved
loop-line-preserved g c =
    let kept = c.loop-line.invariant in
    let none = ap is_some c.in_default.is in
    record {
      told = λ text state is_text is.
          let inv = kept.told text state is_text is in
          let call = c.in_ok-end.ensures.told inv.0 inv.2.now inv.1 inv.2.is_now in (
            call.0,
            call.1,
            goes_none AllocError c.in_ok-end.end g.A.Asker.answers state (lines_of text) (lines_of (c.take_read.new.line.items ++ call.0)) (g.A.Asker.state c.take_read.new.asker)
                (g.A.Asker.fault_count c.args.asker.now) (g.A.Asker.fault_count c.take_read.new.asker) (g.S.Sink.written c.args.sink.now) (g.S.Sink.written c.take_read.new.sink) none
                (goes_after {E = AllocError} (Ok c.in_ok-end.end) g.A.Asker.answers state (lines_of text) (lines_of (c.loop-line.line.items ++ inv.0)) (lines_of (c.take_read.new.line.items ++ call.0))
                (g.A.Asker.state c.loop-line.asker) (g.A.Asker.state c.take_read.new.asker) (g.A.Asker.fault_count c.args.asker.now) (g.A.Asker.fault_count c.loop-line.asker) (g.A.Asker.fault_count c.take_read.new.asker)
                (g.S.Sink.written c.args.sink.now) (g.S.Sink.written c.loop-line.sink) (g.S.Sink.written c.take_read.new.sink) inv.2 kept.asker_count call.2),
          );
      lines = λ text is_text.
          let inv = kept.lines text is_text in
          let call = c.in_ok-end.ensures.lines inv.0 inv.1 in
          (call.0, call.1, keeps_none AllocError c.in_ok-end.end _ _ none call.2 ∙ inv.2);
      begun = c.in_ok-end.ensures.begun;
      ready = c.in_ok-end.ensures.ready;
      kept = c.in_ok-end.ensures.kept ∙ kept.kept;
      asker_stands = asker_none AllocError c.in_ok-end.end _ _ _ none kept.asker_stands c.in_ok-end.ensures.asker_stands;
      asker_count = omega (arith, kept.asker_count, c.in_ok-end.ensures.asker_count);
      source_count = source_none AllocError c.in_ok-end.end _ _ _ none kept.source_count c.in_ok-end.ensures.source_count;
      sink_count = sink_none AllocError c.in_ok-end.end _ _ _ none kept.sink_count c.in_ok-end.ensures.sink_count;
    }

pub returns-in-Some : goal.returns-in-Some
returns-in-Some g c =
    let kept = c.loop-line.invariant in
    let ended = λ (text : List ℕ) (state : g.A.Asker.State) (is_text : g.O.Source.remaining c.args.source.now ≡ Some text) (is : g.A.Asker.state c.args.asker.now ≡ Some state).
    let inv = kept.told text state is_text is in
    let call = c.in_ok-end.ensures.told inv.0 inv.2.now inv.1 inv.2.is_now in
    goes_some AllocError c.in_ok-end.end c.in-Some.end g.A.Asker.answers state (lines_of text) (lines_of (c.take_read.new.line.items ++ call.0)) (g.A.Asker.state c.take_read.new.asker)
    (g.A.Asker.fault_count c.args.asker.now) (g.A.Asker.fault_count c.take_read.new.asker) (g.S.Sink.written c.args.sink.now) (g.S.Sink.written c.take_read.new.sink) c.in-Some.is
    (goes_after {E = AllocError} (Ok c.in_ok-end.end) g.A.Asker.answers state (lines_of text) (lines_of (c.loop-line.line.items ++ inv.0)) (lines_of (c.take_read.new.line.items ++ call.0))
    (g.A.Asker.state c.loop-line.asker) (g.A.Asker.state c.take_read.new.asker) (g.A.Asker.fault_count c.args.asker.now) (g.A.Asker.fault_count c.loop-line.asker) (g.A.Asker.fault_count c.take_read.new.asker)
    (g.S.Sink.written c.args.sink.now) (g.S.Sink.written c.loop-line.sink) (g.S.Sink.written c.take_read.new.sink) inv.2 kept.asker_count call.2)
    in record {
      whole = λ text state is_text is. (ended text state is_text is).0;
      prefix = λ text state is_text is. (ended text state is_text is).1;
      lines = λ text is_text.
          let inv = kept.lines text is_text in
          let call = c.in_ok-end.ensures.lines inv.0 inv.1 in
          keeps_some AllocError c.in_ok-end.end c.in-Some.end _ _ _ c.in-Some.is inv.2 call.2;
      ready = c.in_ok-end.ensures.ready;
      kept = c.in_ok-end.ensures.kept ∙ kept.kept;
      asker_stands = asker_some AllocError c.in_ok-end.end c.in-Some.end _ _ _ c.in-Some.is kept.asker_stands c.in_ok-end.ensures.asker_stands;
      asker_count = omega (arith, kept.asker_count, c.in_ok-end.ensures.asker_count);
      source_count = source_some AllocError c.in_ok-end.end c.in-Some.end _ _ _ c.in-Some.is kept.source_count c.in_ok-end.ensures.source_count;
      sink_count = sink_some AllocError c.in_ok-end.end c.in-Some.end _ _ _ c.in-Some.is kept.sink_count c.in_ok-end.ensures.sink_count;
    }

pub returns-in_err-end : goal.returns-in_err-end
returns-in_err-end g c =
    let kept = c.loop-line.invariant in
    let failed = c.from_residual.ensures.0 in
    record {
      whole = λ text state is_text is. ok_err c.from_residual.result _ failed;
      prefix = λ text state is_text is.
          let inv = kept.told text state is_text is in
          let call = c.in_err-end.ensures.told inv.0 inv.2.now inv.1 inv.2.is_now in
          prefixed_after g.A.Asker.answers state (lines_of text) (lines_of (c.loop-line.line.items ++ inv.0)) (g.A.Asker.state c.loop-line.asker)
          (g.S.Sink.written c.args.sink.now) (g.S.Sink.written c.loop-line.sink) (g.S.Sink.written c.take_read.new.sink) inv.2 call.2;
      lines = λ text is_text. ok_err c.from_residual.result _ failed;
      ready = ready_err c.from_residual.result _ failed;
      kept = c.in_err-end.ensures.kept ∙ kept.kept;
      asker_stands = asker_count_err c.from_residual.result _ _ failed (c.in_err-end.ensures.asker_stands ∙ kept.asker_stands);
      asker_count = omega (arith, kept.asker_count, c.in_err-end.ensures.asker_count);
      source_count = source_count_err c.from_residual.result _ _ failed (c.in_err-end.ensures.source_count ∙ kept.source_count);
      sink_count = sink_count_err c.from_residual.result _ _ failed (c.in_err-end.ensures.sink_count ∙ kept.sink_count);
    }
