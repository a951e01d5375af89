-- What was due of the whole piece is what was written, and then what is due of the rest of it.
use Rattle.std.proofs.Common.{◌≡◌, ℕ, ◌≤◌, ◌++◌, List, Some, drop}
use Rattle.cu_session.specs.Inside.Parts.{GoesOn, IsBegun}
use Rattle.cu_session.specs.Lines.{has_long_line, lines_of}
use Rattle.cu_session.proofs.serving.take_piece.Given as goal

abbrev pub invariant-loop-byte : goal.invariant-loop-byte
invariant-loop-byte g l =
    let answers = g.A.Asker.answers in
    let count = g.A.Asker.fault_count in
    let written = g.S.Sink.written in
    record {
      told : (state : g.A.Asker.State) (rest : List ℕ) → g.A.Asker.state l.fn.asker ≡ Some state
          → GoesOn answers state (lines_of (l.fn.line.items ++ (l.piece ++ rest))) (lines_of (l.line.items ++ (drop l.byte-index l.piece ++ rest)))
          (g.A.Asker.state l.asker) (written l.fn.sink) (written l.sink);
      lines : (rest : List ℕ) → has_long_line (l.line.items ++ (drop l.byte-index l.piece ++ rest)) ≡ has_long_line (l.fn.line.items ++ (l.piece ++ rest));
      begun : IsBegun l.line.items;
      ready : g.A.Asker.is_ready l.asker;
      kept : g.A.Asker.kept l.asker ≡ g.A.Asker.kept l.fn.asker;
      asker_stands : count l.asker ≡ count l.fn.asker;
      asker_count : count l.fn.asker ≤ count l.asker;
      sink_count : g.S.Sink.fault_count l.sink ≡ g.S.Sink.fault_count l.fn.sink;
    }
