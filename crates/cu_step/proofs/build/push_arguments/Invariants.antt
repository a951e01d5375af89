-- What stands from the counter on was added, the last first.
use Rattle.std.proofs.Common.{◌≡◌, ◌≤◌, ◌++◌, drop, length, map, reverse}
use Rattle.cu_step.specs.Inside.Building.{argument}
use Rattle.cu_step.proofs.build.push_arguments.Given as goal

abbrev pub invariant-loop-i : goal.invariant-loop-i
invariant-loop-i l = (l.i ≤ length l.parts) × (l.tasks.items ≡ l.fn.tasks.items ++ reverse (map argument (drop l.i l.parts)))

abbrev pub decreases-loop-i : goal.decreases-loop-i
decreases-loop-i l = l.i
