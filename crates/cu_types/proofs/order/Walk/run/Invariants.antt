use Rattle.std.proofs.Common.{map, reverse}
use Rattle.cu_types.proofs.order.Walk.run.Given as goal
use Rattle.cu_types.specs.Inside.Ordering.{IsWalk, left_over}
use Rattle.cu_types.specs.Table.{shape_of}

abbrev pub invariant-loop-task : goal.invariant-loop-task
invariant-loop-task l =
    IsWalk (map shape_of l.nodes) l.classes l.self.states.items (map shape_of l.self.solved.items) (reverse l.self.tasks.items)

abbrev pub decreases-loop-task : goal.decreases-loop-task
decreases-loop-task l = left_over (map shape_of l.nodes) l.self.states.items l.self.tasks.items
