-- What demands and patterns of the code stand for, and the patterns for the arguments of one.
use Rattle.std.specs.Prelude.{ℕ, List, [], None, Some, map, slice_get}
use denote.Ref.{Bor}
use Rattle.cu_calculus.specs.Choose as calculus
use Rattle.cu_calculus.specs.Choose.{arguments_of}
use Rattle.cu_calculus.specs.Term as clean
use Rattle.cu_kernel.specs.TermsOf.{pattern_of}
use Rattle.cu_kernel.specs.declared.term.Pattern.{Pattern}
use Rattle.cu_matrix.specs.declared.demand.Demand.{Demand}
use Rattle.cu_matrix.specs.declared.demand.Demand.TheVariants as demand

-- the demand that a demand of the code stands for
abbrev pub demand_meaning : Demand → calculus.Demand
demand_meaning demand.Nothing = calculus.Nothing
demand_meaning (demand.Literal l) = calculus.ALiteral l
demand_meaning (demand.Constructor c) = calculus.AConstructor c

-- the patterns that references to patterns of the code stand for
abbrev pub patterns_at : List (Bor Pattern) → List clean.Pattern
patterns_at ps = map (λ p. pattern_of p.now) ps

-- the patterns for the n arguments of what stands at position k
abbrev pub arguments_at : ℕ → ℕ → List clean.Pattern → List clean.Pattern
arguments_at n k ps = elim (slice_get ps k) [ Some p ↦ arguments_of n p | None ↦ [] ]
