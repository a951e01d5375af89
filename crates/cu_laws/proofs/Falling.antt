-- What a node may have, it may have less of, unless it is a free variable.
use Rattle.std.proofs.Common.{◌≢◌, ℕ, inl, inr, List, ◌∷◌, refl, subst}
use Rattle.cu_calculus.specs.Below.{Below}
use Rattle.cu_calculus.specs.Code.{Code}
use Rattle.cu_calculus.specs.Gives.{Claim}
use Rattle.cu_calculus.specs.Value.{Value}
use Rattle.cu_calculus.proofs.BelowLaws.{below_trans}
use Rattle.cu_machine.specs.declared.Kind.{Kind}
use Rattle.cu_machine.specs.declared.Kind.TheVariants as kind
use Rattle.cu_laws.specs.Good.{Assignment, AtMost, MayHave, NoValue}
use Rattle.cu_laws.proofs.Truth.{under_bottom}

at_most_falls : (IsWorth : Value → Type 0) (v w : Value) → AtMost IsWorth v → Below w v → AtMost IsWorth w
at_most_falls IsWorth v w (inl none) low = inl (under_bottom w (subst (λ (x : Value). Below w x) none low))
at_most_falls IsWorth v w (inr found) low = inr (found.0, found.1, below_trans w v found.0 low found.2)

no_value_falls : (v w : Value) → NoValue v → Below w v → NoValue w
no_value_falls v w may low = under_bottom w (subst (λ (x : Value). Below w x) may low)

pub may_fall_as : (of_stuck : Value → Type 0) → ((v w : Value) → of_stuck v → Below w v → of_stuck w) → (program : Code) (claims : List Claim) (assigned : Assignment) (k : Kind)
    (args : List ℕ) (v w : Value) → k ≢ kind.Free → MayHave of_stuck program claims assigned k args v → Below w v → MayHave of_stuck program claims assigned k args w
may_fall_as of_stuck falls program claims assigned kind.Free args v w other may low = absurd (other refl)
may_fall_as of_stuck falls program claims assigned kind.Ind (target ∷ args) v w other may low = below_trans w v (assigned target) low may
may_fall_as of_stuck falls program claims assigned kind.Fail args v w other may low = under_bottom w (subst (λ (x : Value). Below w x) may low)
may_fall_as of_stuck falls program claims assigned kind.Stuck args v w other may low = falls v w may low
may_fall_as of_stuck falls program claims assigned _ args v w other may low = at_most_falls _ v w may low

pub may_fall : (program : Code) (claims : List Claim) (assigned : Assignment) (k : Kind) (args : List ℕ) (v w : Value) → k ≢ kind.Free
    → MayHave NoValue program claims assigned k args v → Below w v → MayHave NoValue program claims assigned k args w
may_fall program claims assigned k args v w other may low = may_fall_as NoValue no_value_falls program claims assigned k args v w other may low
