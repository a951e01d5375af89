use Rattle.std.proofs.Common.{◌≡◌, ◌-◌}
use Rattle.cu_search.specs.Standing.{IsGoing}
use Rattle.cu_search.specs.Stands.{standing_of}
use Rattle.cu_search.proofs.NextLemmas.{NextLeft}
use Rattle.cu_search.proofs.search.Search.next_lines.Given as goal

-- Rounds without lines were run, and the next round may be run.
abbrev pub invariant-loop-end : goal.invariant-loop-end
invariant-loop-end g l =
    let content = g.S.Store.content in
    let written = g.K.Sink.written in
    record {
      left : NextLeft (written l.fn.sink) (written l.sink) (standing_of content l.fn.self) (standing_of content l.self);
      going : IsGoing (standing_of content l.self);
      count : g.K.Sink.fault_count l.sink ≡ g.K.Sink.fault_count l.fn.sink;
    }

abbrev pub decreases-loop-end : goal.decreases-loop-end
decreases-loop-end g l = l.self.limits.rounds - l.self.round
