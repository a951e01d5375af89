-- The arguments from the counter on were added, the last first.
use Rattle.std.proofs.Common.{◌≡◌, ◌≤◌, ◌++◌, drop, length, reverse}
use Rattle.cu_step.proofs.pending.push_all.Given as goal

abbrev pub invariant-loop-i : goal.invariant-loop-i
invariant-loop-i l = (l.i ≤ length l.args) × (l.pending.items ≡ l.fn.pending.items ++ reverse (drop l.i l.args))

abbrev pub decreases-loop-i : goal.decreases-loop-i
decreases-loop-i l = l.i
