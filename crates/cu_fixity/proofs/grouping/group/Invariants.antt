-- The cells so far and the tasks that are left give the trees of all pieces.
use Rattle.std.proofs.Common.{reverse}
use Rattle.cu_fixity.specs.Ranges.{Builds, weight}
use Rattle.cu_fixity.proofs.grouping.group.Given as goal

abbrev pub invariant-loop-task : goal.invariant-loop-task
invariant-loop-task l = Builds l.pieces l.cells.items (reverse l.tasks.items)

abbrev pub decreases-loop-task : goal.decreases-loop-task
decreases-loop-task l = weight (reverse l.tasks.items)
