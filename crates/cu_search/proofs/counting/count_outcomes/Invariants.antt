use Rattle.std.proofs.Common.{map}
use Rattle.cu_machine.specs.Listing.{round_of}
use Rattle.cu_step.specs.Outcome.{next_of}
use Rattle.cu_search.proofs.TotalsLemmas.{CountLeft, rest_of}
use Rattle.cu_search.proofs.counting.count_outcomes.Given as goal

-- the lines so far were counted, and the others are those of the outcomes that are left
abbrev pub invariant-loop-outcome : goal.invariant-loop-outcome
invariant-loop-outcome g l =
    let content = g.S.Store.content in
    CountLeft l.fn.totals l.totals
    (round_of l.turn.round l.turn.limit l.fn.tally (map (next_of content) l.outcomes))
    (rest_of (next_of content) l.turn.round l.turn.limit l.tally l.outcomes l.outcome-index)
