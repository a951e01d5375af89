use Rattle.std.proofs.Common.{◌≡◌, ◌-◌}
use Rattle.cu_search.specs.Standing.{IsGoing}
use Rattle.cu_search.specs.Stands.{standing_of}
use Rattle.cu_search.proofs.ListingLemmas.{ListingLeft}
use Rattle.cu_search.proofs.search.Search.list.Given as goal

-- What is left of the listing is left of the whole, and the next round may be run.
abbrev pub invariant-loop-end : goal.invariant-loop-end
invariant-loop-end g l =
    let content = g.S.Store.content in
    let written = g.K.Sink.written in
    record {
      left : ListingLeft (written l.fn.sink) (written l.sink) (standing_of content l.fn.self) (standing_of content l.self);
      going : IsGoing (standing_of content l.self);
      count : g.K.Sink.fault_count l.sink ≡ g.K.Sink.fault_count l.fn.sink;
    }

abbrev pub decreases-loop-end : goal.decreases-loop-end
decreases-loop-end g l = l.self.limits.rounds - l.self.round
