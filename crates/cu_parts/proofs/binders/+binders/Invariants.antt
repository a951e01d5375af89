use Rattle.std.proofs.Common.{◌≡◌, ◌+◌, ◌*◌, ◌++◌, drop, max}
use denote.Param.Weighed.{most}
use Rattle.cu_kernel.specs.LocalTermsOf.{local_alternatives_of, local_terms_of}
use Rattle.cu_kernel.specs.LocalValid.{alternative_binders, binders_all}
use Rattle.cu_kernel.specs.declared.local.LocalTerm.{size-LocalTerm}
use Rattle.cu_parts.proofs.binders.+binders.Given as goal

-- what was found and what the terms that are left bind are all
abbrev pub invariant-push_terms-loop-term : goal.invariant-push_terms-loop-term
invariant-push_terms-loop-term l =
    l.found.items ++ binders_all (local_terms_of (drop l.term-index l.terms)) ≡ l.fn.found.items ++ binders_all (local_terms_of l.terms)

abbrev pub invariant-push_alternatives-loop-pattern : goal.invariant-push_alternatives-loop-pattern
invariant-push_alternatives-loop-pattern l =
    l.found.items ++ alternative_binders (local_alternatives_of (drop l.pattern-index l.alternatives))
    ≡ l.fn.found.items ++ alternative_binders (local_alternatives_of l.alternatives)

abbrev pub decreases-push_term : goal.decreases-push_term
decreases-push_term l = 3 * size-LocalTerm l.term.now

abbrev pub decreases-push_two : goal.decreases-push_two
decreases-push_two l = 3 * max (size-LocalTerm l.first.now) (size-LocalTerm l.second.now) + 1

abbrev pub decreases-push_terms : goal.decreases-push_terms
decreases-push_terms l = 3 * most size-LocalTerm l.terms.now + 1

abbrev pub decreases-push_alternative : goal.decreases-push_alternative
decreases-push_alternative l = 3 * size-LocalTerm l.body.now + 1

abbrev pub decreases-push_alternatives : goal.decreases-push_alternatives
decreases-push_alternatives l = 3 * most (λ a. size-LocalTerm a.1) l.alternatives.now + 2
