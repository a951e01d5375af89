use Rattle.std.proofs.Common.{◌≡◌, ◌+◌, ◌*◌, drop}
use denote.Param.Weighed.{most}
use Rattle.cu_kernel.specs.Captures.{alternatives_use, any_use}
use Rattle.cu_kernel.specs.LocalTermsOf.{local_alternatives_of, local_terms_of}
use Rattle.cu_kernel.specs.declared.local.LocalTerm.{size-LocalTerm}
use Rattle.cu_parts.specs.Inside.Capturing.{is_met}
use Rattle.cu_parts.proofs.capturing.+uses.Given as goal

abbrev pub decreases-term_uses : goal.decreases-term_uses
decreases-term_uses l = 2 * size-LocalTerm l.term.now

abbrev pub decreases-terms_use : goal.decreases-terms_use
decreases-terms_use l = 2 * most size-LocalTerm l.terms.now + 1

abbrev pub decreases-alternatives_use : goal.decreases-alternatives_use
decreases-alternatives_use l = 2 * most (λ a. size-LocalTerm a.1) l.alternatives.now + 1

-- the terms that are left use the variable where any does
abbrev pub invariant-terms_use-loop-term : goal.invariant-terms_use-loop-term
invariant-terms_use-loop-term l =
    any_use (is_met l.met) l.x (local_terms_of (drop l.term-index l.terms)) ≡ any_use (is_met l.met) l.x (local_terms_of l.terms)

abbrev pub invariant-alternatives_use-loop-pattern : goal.invariant-alternatives_use-loop-pattern
invariant-alternatives_use-loop-pattern l =
    alternatives_use (is_met l.met) l.x (local_alternatives_of (drop l.pattern-index l.alternatives))
    ≡ alternatives_use (is_met l.met) l.x (local_alternatives_of l.alternatives)
