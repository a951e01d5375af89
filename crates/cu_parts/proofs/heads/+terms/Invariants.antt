use Rattle.std.proofs.Common.{◌≡◌, ◌+◌, ◌*◌, drop}
use denote.Param.Weighed.{most}
use Rattle.cu_kernel.specs.LocalTermsOf.{local_alternatives_of, local_terms_of}
use Rattle.cu_kernel.specs.LocalValid.{alternatives_pass, terms_pass}
use Rattle.cu_kernel.specs.declared.local.LocalTerm.{size-LocalTerm}
use Rattle.cu_parts.specs.Inside.KnownHeads.{known_heads}
use Rattle.cu_parts.proofs.heads.+terms.Given as goal

abbrev pub decreases-term_passes : goal.decreases-term_passes
decreases-term_passes l = 2 * size-LocalTerm l.term.now

abbrev pub decreases-terms_pass : goal.decreases-terms_pass
decreases-terms_pass l = 2 * most size-LocalTerm l.terms.now + 1

abbrev pub decreases-alternatives_pass : goal.decreases-alternatives_pass
decreases-alternatives_pass l = 2 * most (λ a. size-LocalTerm a.1) l.alternatives.now + 1

-- the terms that are left pass where all do
abbrev pub invariant-terms_pass-loop-term : goal.invariant-terms_pass-loop-term
invariant-terms_pass-loop-term l =
    terms_pass (known_heads l.known) (local_terms_of (drop l.term-index l.terms)) ≡ terms_pass (known_heads l.known) (local_terms_of l.terms)

abbrev pub invariant-alternatives_pass-loop-pattern : goal.invariant-alternatives_pass-loop-pattern
invariant-alternatives_pass-loop-pattern l =
    alternatives_pass (known_heads l.known) (local_alternatives_of (drop l.pattern-index l.alternatives))
    ≡ alternatives_pass (known_heads l.known) (local_alternatives_of l.alternatives)
