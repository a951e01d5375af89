use Rattle.std.proofs.Common.{◌≡◌, drop, length}
use Rattle.cu_calculus.specs.Answered.{same_values}
use Rattle.cu_calculus.specs.Value.{values_of}
use Rattle.cu_crwl.proofs.apply.values_are.Given as goal

abbrev pub invariant-loop-i : goal.invariant-loop-i
invariant-loop-i l =
    (length l.left ≡ length l.right)
    × (same_values (values_of (drop l.i l.left)) (values_of (drop l.i l.right)) ≡ same_values (values_of l.left) (values_of l.right))
