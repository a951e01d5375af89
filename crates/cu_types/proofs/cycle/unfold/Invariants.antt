use Rattle.std.proofs.Common.{length, map, reverse}
use Rattle.cu_types.proofs.cycle.unfold.Given as goal
use Rattle.cu_types.specs.Inside.Cycles.{IsUnfolding}
use Rattle.cu_types.specs.Table.{shape_of}

abbrev pub invariant-loop-task : goal.invariant-loop-task
invariant-loop-task l =
    IsUnfolding (map shape_of l.initial.nodes.items) l.classes l.first (map shape_of l.nodes.items) (reverse l.tasks.items)
    l.inner.class l.inner.place

abbrev pub decreases-loop-task : goal.decreases-loop-task
decreases-loop-task l = length l.tasks.items
