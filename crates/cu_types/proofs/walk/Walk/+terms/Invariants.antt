use Rattle.std.proofs.Common.{◌+◌, ◌*◌, drop, max}
use denote.Param.Weighed.{most}
use Rattle.cu_kernel.specs.TermsOf.{alternatives_of, terms_of}
use Rattle.cu_kernel.specs.declared.term.Term.{size-Term}
use Rattle.cu_types.proofs.walk.Walk.+terms.Given as goal
use Rattle.cu_types.specs.Equations.{alternatives_ask, terms_ask}
use Rattle.cu_types.specs.Inside.Walking.{IsWalking, heads, scope}

-- the terms that are left, read off, give the whole
abbrev pub invariant-terms-loop-term : goal.invariant-terms-loop-term
invariant-terms-loop-term l =
    IsWalking l.initial.self l.self
    (terms_ask (heads l.initial.self) (scope l.initial.self) l.t (terms_of (drop l.term-index l.terms)))
    (terms_ask (heads l.initial.self) (scope l.initial.self) l.first (terms_of l.terms))

abbrev pub decreases-term : goal.decreases-term
decreases-term l = 3 * size-Term l.term.now

abbrev pub decreases-applied : goal.decreases-applied
decreases-applied l = 3 * most size-Term l.arguments.now + 2

abbrev pub decreases-apply : goal.decreases-apply
decreases-apply l = 3 * max (size-Term l.function.now) (size-Term l.argument.now) + 1

abbrev pub decreases-scoped : goal.decreases-scoped
decreases-scoped l = 3 * size-Term l.body.now + 1

abbrev pub decreases-terms : goal.decreases-terms
decreases-terms l = 3 * most size-Term l.terms.now + 1

-- the alternatives that are left, read off, give the whole
abbrev pub invariant-alternatives-loop-pattern : goal.invariant-alternatives-loop-pattern
invariant-alternatives-loop-pattern l =
    IsWalking l.initial.self l.self
    (alternatives_ask (heads l.initial.self) (scope l.initial.self) l.s l.t (alternatives_of (drop l.pattern-index l.alternatives)))
    (alternatives_ask (heads l.initial.self) (scope l.initial.self) l.s l.t (alternatives_of l.alternatives))

abbrev pub decreases-alternatives : goal.decreases-alternatives
decreases-alternatives l = 3 * most (λ a. size-Term a.1) l.alternatives.now + 2

abbrev pub decreases-alternative : goal.decreases-alternative
decreases-alternative l = 3 * size-Term l.body.now + 1
