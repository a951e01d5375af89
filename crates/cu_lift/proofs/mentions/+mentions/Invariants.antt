use Rattle.std.proofs.Common.{◌≡◌, ◌+◌, ◌*◌, ◌++◌, drop, max}
use denote.Param.Weighed.{most}
use Rattle.cu_kernel.specs.declared.term.Term.{size-Term}
use Rattle.cu_calculus.specs.Claims.{all_mentions, alternative_mentions}
use Rattle.cu_kernel.specs.TermsOf.{alternatives_of, terms_of}
use Rattle.cu_lift.specs.Inside.MentionsOf.{mention_meanings}
use Rattle.cu_lift.proofs.mentions.+mentions.Given as goal

-- what was found and what the terms that are left mention are all
abbrev pub invariant-push_terms-loop-term : goal.invariant-push_terms-loop-term
invariant-push_terms-loop-term l =
    mention_meanings l.found.items ++ all_mentions (terms_of (drop l.term-index l.terms))
    ≡ mention_meanings l.fn.found.items ++ all_mentions (terms_of l.terms)

abbrev pub invariant-push_alternatives-loop-body : goal.invariant-push_alternatives-loop-body
invariant-push_alternatives-loop-body l =
    mention_meanings l.found.items ++ alternative_mentions (alternatives_of (drop l.body-index l.alternatives))
    ≡ mention_meanings l.fn.found.items ++ alternative_mentions (alternatives_of l.alternatives)

abbrev pub decreases-push_term : goal.decreases-push_term
decreases-push_term l = 3 * size-Term l.term.now

abbrev pub decreases-push_call : goal.decreases-push_call
decreases-push_call l = 3 * most size-Term l.arguments.now + 2

abbrev pub decreases-push_two : goal.decreases-push_two
decreases-push_two l = 3 * max (size-Term l.first.now) (size-Term l.second.now) + 1

abbrev pub decreases-push_terms : goal.decreases-push_terms
decreases-push_terms l = 3 * most size-Term l.terms.now + 1

abbrev pub decreases-push_alternatives : goal.decreases-push_alternatives
decreases-push_alternatives l = 3 * most (λ a. size-Term a.1) l.alternatives.now + 1
