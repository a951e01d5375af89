use Rattle.std.proofs.Common.{◌≡◌, ◌++◌, flat_map}
use Rattle.std.specs.Vec.Iter.{into_iter_items}
use Rattle.cu_step.specs.Outcome.{branches_of}
use Rattle.cu_search.proofs.level.next_level.Given as goal

-- the branches so far, and those that follow the outcomes that are left, are those that follow all
abbrev pub invariant-loop-outcome : goal.invariant-loop-outcome
invariant-loop-outcome g l =
    l.level.items ++ flat_map branches_of (into_iter_items l.outcome-iterator) ≡ flat_map branches_of l.fn.outcomes.items
