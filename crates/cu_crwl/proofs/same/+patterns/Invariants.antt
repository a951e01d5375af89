use Rattle.std.proofs.Common.{◌≡◌, length, drop}
use Rattle.cu_kernel.specs.TermsOf.{patterns_of}
use Rattle.cu_crwl.specs.Same.{same_patterns}
use Rattle.cu_crwl.proofs.same.+patterns.Given as goal

abbrev pub invariant-patterns_are-loop-i : goal.invariant-patterns_are-loop-i
invariant-patterns_are-loop-i l =
    (length l.left ≡ length l.right)
    × (same_patterns (patterns_of (drop l.i l.left)) (patterns_of (drop l.i l.right)) ≡ same_patterns (patterns_of l.left) (patterns_of l.right))
