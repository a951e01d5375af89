-- What was due is what was written, and then what is due of the rest of the input.
use Rattle.std.proofs.Common.{◌≡◌, ℕ, ◌≤◌, ◌++◌, List, Some}
use Rattle.cu_session.specs.Inside.Parts.{GoesOn, IsBegun}
use Rattle.cu_session.specs.Lines.{has_long_line, lines_of}
use Rattle.cu_session.proofs.serving.serve.Given as goal

abbrev pub invariant-loop-line : goal.invariant-loop-line
invariant-loop-line g l =
    let answers = g.A.Asker.answers in
    let count = g.A.Asker.fault_count in
    let written = g.S.Sink.written in
    let remaining = g.O.Source.remaining in
    record {
      told : (text : List ℕ) (state : g.A.Asker.State) → remaining l.fn.source ≡ Some text → g.A.Asker.state l.fn.asker ≡ Some state
          → (rest : List ℕ) × (remaining l.source ≡ Some rest)
          × GoesOn answers state (lines_of text) (lines_of (l.line.items ++ rest)) (g.A.Asker.state l.asker) (written l.fn.sink) (written l.sink);
      lines : (text : List ℕ) → remaining l.fn.source ≡ Some text
          → (rest : List ℕ) × (remaining l.source ≡ Some rest) × (has_long_line (l.line.items ++ rest) ≡ has_long_line text);
      begun : IsBegun l.line.items;
      ready : g.A.Asker.is_ready l.asker;
      kept : g.A.Asker.kept l.asker ≡ g.A.Asker.kept l.fn.asker;
      asker_stands : count l.asker ≡ count l.fn.asker;
      asker_count : count l.fn.asker ≤ count l.asker;
      source_count : g.O.Source.fault_count l.source ≡ g.O.Source.fault_count l.fn.source;
      sink_count : g.S.Sink.fault_count l.sink ≡ g.S.Sink.fault_count l.fn.sink;
    }

abbrev pub decreases-loop-line : goal.decreases-loop-line
decreases-loop-line g l = g.O.Source.reads_left l.source
