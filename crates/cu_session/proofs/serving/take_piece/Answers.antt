-- A piece, a byte at a time.
use Rattle.std.proofs.Common.{◌+◌, ◌<◌, ◌≤◌, ◌++◌, Err, Ok, arith, drop, get_or, length, refl, sym, ◌∙◌}
use Rattle.cu_session.specs.Lines.{lines_of}
use Rattle.cu_session.proofs.SessionLemmas.{goes_nothing}
use Rattle.cu_session.proofs.PieceLemmas.{asker_ended, asker_err, asker_none, goes_ended, goes_err, goes_none, keeps_ended, keeps_err, keeps_none, piece_done, piece_done_lines, piece_goes, piece_lines, ready_err, sink_ended, sink_err, sink_none, source_err}
use Rattle.std.specs.declared.alloc.AllocError.{AllocError}
use Rattle.cu_session.proofs.serving.take_piece.Goals as goal

pub loop-byte-init : goal.loop-byte-init
loop-byte-init g c = record {
  told = λ state rest is. goes_nothing g.A.Asker.answers (lines_of (c.args.line.now.items ++ (c.args.piece.now ++ rest))) (g.A.Asker.state c.args.asker.now) state (g.S.Sink.written c.args.sink.now) is;
  lines = λ rest. refl;
  begun = c.requires.begun;
  ready = c.requires.ready;
  kept = refl;
  asker_stands = refl;
  asker_count = omega arith;
  sink_count = refl;
}

pub loop-byte-preserved : goal.loop-byte-preserved
loop-byte-preserved g c =
    let answers = g.A.Asker.answers in
    let piece = c.args.piece.now in
    let i = c.loop-byte.byte-index in
    let below : i < length piece = omega arith in
    let kept = c.loop-byte.invariant in
    let none = sym c.is_some.ensures ∙ c.if-is_some.false in
    record {
      told = λ state rest is. goes_none AllocError c.in_ok-end.end answers state (lines_of (c.args.line.now.items ++ (piece ++ rest))) (lines_of (c.take_byte.new.line.items ++ (drop (i + 1) piece ++ rest))) (g.A.Asker.state c.take_byte.new.asker)
          (g.A.Asker.fault_count c.args.asker.now) (g.A.Asker.fault_count c.take_byte.new.asker) (g.S.Sink.written c.args.sink.now) (g.S.Sink.written c.take_byte.new.sink) none
          (piece_goes {E = AllocError} (Ok c.in_ok-end.end) answers state (lines_of (c.args.line.now.items ++ (piece ++ rest))) c.loop-byte.line.items piece rest i (get_or piece i 0) 0
          (lines_of (c.take_byte.new.line.items ++ (drop (i + 1) piece ++ rest))) (g.A.Asker.state c.loop-byte.asker) (g.A.Asker.state c.take_byte.new.asker)
          (g.A.Asker.fault_count c.args.asker.now) (g.A.Asker.fault_count c.loop-byte.asker) (g.A.Asker.fault_count c.take_byte.new.asker)
          (g.S.Sink.written c.args.sink.now) (g.S.Sink.written c.loop-byte.sink) (g.S.Sink.written c.take_byte.new.sink)
          below refl (kept.told state rest is) kept.asker_count (λ now is_now. c.in_ok-end.ensures.told now (drop (i + 1) piece ++ rest) is_now));
      lines = λ rest. keeps_none AllocError c.in_ok-end.end _ _ none
          (piece_lines {E = AllocError} (Ok c.in_ok-end.end) _ c.loop-byte.line.items piece rest i (get_or piece i 0) 0 _ below refl (kept.lines rest) (c.in_ok-end.ensures.lines (drop (i + 1) piece ++ rest)));
      begun = c.in_ok-end.ensures.begun;
      ready = c.in_ok-end.ensures.ready;
      kept = c.in_ok-end.ensures.kept ∙ kept.kept;
      asker_stands = asker_none AllocError c.in_ok-end.end _ _ _ none kept.asker_stands c.in_ok-end.ensures.asker_stands;
      asker_count = omega (arith, kept.asker_count, c.in_ok-end.ensures.asker_count);
      sink_count = sink_none AllocError c.in_ok-end.end _ _ _ none kept.sink_count c.in_ok-end.ensures.sink_count;
    }

pub returns-then-is_some : goal.returns-then-is_some
returns-then-is_some g c =
    let answers = g.A.Asker.answers in
    let piece = c.args.piece.now in
    let i = c.loop-byte.byte-index in
    let below : i < length piece = omega arith in
    let kept = c.loop-byte.invariant in
    let some = sym c.is_some.ensures ∙ c.if-is_some.true in
    record {
      told = λ state rest is. goes_ended AllocError c.in_ok-end.end answers state (lines_of (c.args.line.now.items ++ (piece ++ rest))) (lines_of (c.take_byte.new.line.items ++ (drop (i + 1) piece ++ rest))) (lines_of (c.take_byte.new.line.items ++ rest)) (g.A.Asker.state c.take_byte.new.asker)
          (g.A.Asker.fault_count c.args.asker.now) (g.A.Asker.fault_count c.take_byte.new.asker) (g.S.Sink.written c.args.sink.now) (g.S.Sink.written c.take_byte.new.sink) some
          (piece_goes {E = AllocError} (Ok c.in_ok-end.end) answers state (lines_of (c.args.line.now.items ++ (piece ++ rest))) c.loop-byte.line.items piece rest i (get_or piece i 0) 0
          (lines_of (c.take_byte.new.line.items ++ (drop (i + 1) piece ++ rest))) (g.A.Asker.state c.loop-byte.asker) (g.A.Asker.state c.take_byte.new.asker)
          (g.A.Asker.fault_count c.args.asker.now) (g.A.Asker.fault_count c.loop-byte.asker) (g.A.Asker.fault_count c.take_byte.new.asker)
          (g.S.Sink.written c.args.sink.now) (g.S.Sink.written c.loop-byte.sink) (g.S.Sink.written c.take_byte.new.sink)
          below refl (kept.told state rest is) kept.asker_count (λ now is_now. c.in_ok-end.ensures.told now (drop (i + 1) piece ++ rest) is_now));
      lines = λ rest. keeps_ended AllocError c.in_ok-end.end _ _ _ some
          (piece_lines {E = AllocError} (Ok c.in_ok-end.end) _ c.loop-byte.line.items piece rest i (get_or piece i 0) 0 _ below refl (kept.lines rest) (c.in_ok-end.ensures.lines (drop (i + 1) piece ++ rest)));
      begun = c.in_ok-end.ensures.begun;
      ready = c.in_ok-end.ensures.ready;
      kept = c.in_ok-end.ensures.kept ∙ kept.kept;
      asker_stands = asker_ended AllocError c.in_ok-end.end _ _ _ kept.asker_stands c.in_ok-end.ensures.asker_stands;
      asker_count = omega (arith, kept.asker_count, c.in_ok-end.ensures.asker_count);
      sink_count = sink_ended AllocError c.in_ok-end.end _ _ _ kept.sink_count c.in_ok-end.ensures.sink_count;
      source_count = c.in_ok-end.ensures.source_count;
    }

pub returns-in_err-end : goal.returns-in_err-end
returns-in_err-end g c =
    let answers = g.A.Asker.answers in
    let piece = c.args.piece.now in
    let i = c.loop-byte.byte-index in
    let below : i < length piece = omega arith in
    let kept = c.loop-byte.invariant in
    record {
      told = λ state rest is. goes_err c.from_residual.result c.in_err-end.field-0.0 answers state (lines_of (c.args.line.now.items ++ (piece ++ rest))) (lines_of (c.take_byte.new.line.items ++ (drop (i + 1) piece ++ rest))) (lines_of (c.take_byte.new.line.items ++ rest)) (g.A.Asker.state c.take_byte.new.asker) (g.A.Asker.state c.take_byte.new.asker)
          (g.A.Asker.fault_count c.args.asker.now) (g.A.Asker.fault_count c.take_byte.new.asker) (g.A.Asker.fault_count c.args.asker.now) (g.A.Asker.fault_count c.take_byte.new.asker) (g.S.Sink.written c.args.sink.now) (g.S.Sink.written c.take_byte.new.sink) c.from_residual.ensures.0
          (piece_goes (Err c.in_err-end.field-0.0) answers state (lines_of (c.args.line.now.items ++ (piece ++ rest))) c.loop-byte.line.items piece rest i (get_or piece i 0) 0
          (lines_of (c.take_byte.new.line.items ++ (drop (i + 1) piece ++ rest))) (g.A.Asker.state c.loop-byte.asker) (g.A.Asker.state c.take_byte.new.asker)
          (g.A.Asker.fault_count c.args.asker.now) (g.A.Asker.fault_count c.loop-byte.asker) (g.A.Asker.fault_count c.take_byte.new.asker)
          (g.S.Sink.written c.args.sink.now) (g.S.Sink.written c.loop-byte.sink) (g.S.Sink.written c.take_byte.new.sink)
          below refl (kept.told state rest is) kept.asker_count (λ now is_now. c.in_err-end.ensures.told now (drop (i + 1) piece ++ rest) is_now));
      lines = λ rest. keeps_err c.from_residual.result _ _ c.from_residual.ensures.0;
      begun = c.in_err-end.ensures.begun;
      ready = ready_err c.from_residual.result _ c.from_residual.ensures.0;
      kept = c.in_err-end.ensures.kept ∙ kept.kept;
      asker_stands = asker_err c.from_residual.result _ _ c.from_residual.ensures.0 (c.in_err-end.ensures.asker_stands ∙ kept.asker_stands);
      asker_count = omega (arith, kept.asker_count, c.in_err-end.ensures.asker_count);
      sink_count = sink_err c.from_residual.result _ _ c.from_residual.ensures.0 (c.in_err-end.ensures.sink_count ∙ kept.sink_count);
      source_count = λ count. source_err c.from_residual.result count c.from_residual.ensures.0;
    }

pub returns : goal.returns
returns g c =
    let piece = c.args.piece.now in
    let i = c.loop-byte.byte-index in
    let past : length piece ≤ i = omega arith in
    let kept = c.loop-byte.invariant in
    record {
      told = λ state rest is. piece_done g.A.Asker.answers state (lines_of (c.args.line.now.items ++ (piece ++ rest))) c.loop-byte.line.items piece rest i (g.A.Asker.state c.loop-byte.asker) (g.S.Sink.written c.args.sink.now) (g.S.Sink.written c.loop-byte.sink) past (kept.told state rest is);
      lines = λ rest. piece_done_lines _ c.loop-byte.line.items piece rest i past (kept.lines rest);
      begun = kept.begun;
      ready = kept.ready;
      kept = kept.kept;
      asker_stands = kept.asker_stands;
      asker_count = kept.asker_count;
      sink_count = kept.sink_count;
      source_count = λ count. refl;
    }
