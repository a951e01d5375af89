use Rattle.std.proofs.Common.{◌≡◌, ◌+◌, ◌*◌, length, drop}
use denote.Param.Weighed.{most}
use Rattle.cu_kernel.specs.declared.term.Term.{size-Term}
use Rattle.cu_kernel.specs.TermsOf.{alternatives_of, terms_of}
use Rattle.cu_crwl.specs.Same.{same_alternatives, same_terms}
use Rattle.cu_crwl.proofs.same.+terms.Given as goal

abbrev pub decreases-alternatives_are : goal.decreases-alternatives_are
decreases-alternatives_are l = 2 * most (λ a. size-Term a.1) l.left.now + 1

abbrev pub decreases-term_is : goal.decreases-term_is
decreases-term_is l = 2 * goal.size-term_is l

abbrev pub decreases-terms_are : goal.decreases-terms_are
decreases-terms_are l = 2 * goal.size-terms_are l + 1

abbrev pub invariant-alternatives_are-loop-i : goal.invariant-alternatives_are-loop-i
invariant-alternatives_are-loop-i l =
    (length l.left ≡ length l.right)
    × (same_alternatives (alternatives_of (drop l.i l.left)) (alternatives_of (drop l.i l.right)) ≡ same_alternatives (alternatives_of l.left) (alternatives_of l.right))

abbrev pub invariant-terms_are-loop-i : goal.invariant-terms_are-loop-i
invariant-terms_are-loop-i l =
    (length l.left ≡ length l.right)
    × (same_terms (terms_of (drop l.i l.left)) (terms_of (drop l.i l.right)) ≡ same_terms (terms_of l.left) (terms_of l.right))
