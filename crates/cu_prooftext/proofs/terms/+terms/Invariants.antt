use Rattle.std.proofs.Common.{◌≡◌, ◌+◌, ◌*◌, ◌++◌, drop}
use denote.Param.Weighed.{most}
use Rattle.cu_kernel.specs.declared.term.Term.{size-Term}
use Rattle.cu_prooftext.specs.Text.{alternatives_after, terms_after}
use Rattle.cu_kernel.specs.TermsOf.{alternatives_of, terms_of}
use Rattle.cu_prooftext.proofs.terms.+terms.Given as goal

-- what is written and what is left are the whole
abbrev pub invariant-write_terms_after-loop-term : goal.invariant-write_terms_after-loop-term
invariant-write_terms_after-loop-term l =
    l.out.items ++ terms_after (terms_of (drop l.term-index l.terms))
    ≡ l.fn.out.items ++ terms_after (terms_of l.terms)

-- what is written and what is left are the whole
abbrev pub invariant-write_alternatives_after-loop-alternative :
    goal.invariant-write_alternatives_after-loop-alternative
invariant-write_alternatives_after-loop-alternative l =
    l.out.items ++ alternatives_after (alternatives_of (drop l.alternative-index l.alternatives))
    ≡ l.fn.out.items ++ alternatives_after (alternatives_of l.alternatives)

abbrev pub decreases-write_alternatives_after : goal.decreases-write_alternatives_after
decreases-write_alternatives_after l = 3 * most (λ a. size-Term a.1) l.alternatives.now + 2

abbrev pub decreases-write_term : goal.decreases-write_term
decreases-write_term l = 3 * goal.size-write_term l

abbrev pub decreases-write_term_after : goal.decreases-write_term_after
decreases-write_term_after l = 3 * goal.size-write_term_after l + 1

abbrev pub decreases-write_terms_after : goal.decreases-write_terms_after
decreases-write_terms_after l = 3 * goal.size-write_terms_after l + 2
