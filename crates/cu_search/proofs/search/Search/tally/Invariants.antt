use Rattle.std.proofs.Common.{◌-◌}
use Rattle.cu_search.specs.Standing.{IsGoing}
use Rattle.cu_search.specs.Stands.{standing_of}
use Rattle.cu_search.proofs.TotalsLemmas.{TotalsLeft}
use Rattle.cu_search.proofs.search.Search.tally.Given as goal

-- The lines so far were counted, and the next round may be run.
abbrev pub invariant-loop-end : goal.invariant-loop-end
invariant-loop-end g l =
    let content = g.S.Store.content in
    record {
      left : TotalsLeft l.totals (standing_of content l.fn.self) (standing_of content l.self);
      going : IsGoing (standing_of content l.self);
    }

abbrev pub decreases-loop-end : goal.decreases-loop-end
decreases-loop-end g l = l.self.limits.rounds - l.self.round
