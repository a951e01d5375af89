use Rattle.std.proofs.Common.{◌≡◌, ◌+◌, ◌*◌, drop, max}
use Rattle.cu_calculus.specs.Valid.{fit_alternatives, fit_terms}
use Rattle.cu_kernel.specs.Heads.{heads_program}
use Rattle.cu_kernel.specs.Inside.Scope.{allowed}
use Rattle.cu_kernel.specs.TermsOf.{alternatives_of, terms_of}
use denote.Param.Weighed.{most}
use Rattle.cu_kernel.specs.declared.term.Term.{size-Term}
use Rattle.cu_kernel.proofs.terms.+terms.Given as goal

-- the terms that are left fit where all do
abbrev pub invariant-terms_fit-loop-term : goal.invariant-terms_fit-loop-term
invariant-terms_fit-loop-term l =
    fit_terms (heads_program l.heads) (allowed l.scope) (terms_of (drop l.term-index l.terms))
    ≡ fit_terms (heads_program l.heads) (allowed l.scope) (terms_of l.terms)

-- the alternatives that are left fit where all do
abbrev pub invariant-alternatives_fit-loop-pattern : goal.invariant-alternatives_fit-loop-pattern
invariant-alternatives_fit-loop-pattern l =
    fit_alternatives (heads_program l.heads) (allowed l.scope) (alternatives_of (drop l.pattern-index l.alternatives))
    ≡ fit_alternatives (heads_program l.heads) (allowed l.scope) (alternatives_of l.alternatives)

abbrev pub decreases-term_fits : goal.decreases-term_fits
decreases-term_fits l = 2 * size-Term l.term.now

abbrev pub decreases-both_fit : goal.decreases-both_fit
decreases-both_fit l = 2 * max (size-Term l.first.now) (size-Term l.second.now) + 1

abbrev pub decreases-terms_fit : goal.decreases-terms_fit
decreases-terms_fit l = 2 * most size-Term l.terms.now + 1

abbrev pub decreases-alternatives_fit : goal.decreases-alternatives_fit
decreases-alternatives_fit l = 2 * most (λ a. size-Term a.1) l.alternatives.now + 1
