-- What stands from the counter on was added, the last first.
use Rattle.std.proofs.Common.{◌≡◌, ◌≤◌, ◌++◌, drop, length, map, reverse}
use Rattle.cu_step.specs.declared.build.Task.TheVariants as task
use Rattle.cu_step.proofs.build.push_variables.Given as goal

abbrev pub invariant-loop-i : goal.invariant-loop-i
invariant-loop-i l = (l.i ≤ length l.variables) × (l.tasks.items ≡ l.fn.tasks.items ++ reverse (map task.Take (drop l.i l.variables)))

abbrev pub decreases-loop-i : goal.decreases-loop-i
decreases-loop-i l = l.i
