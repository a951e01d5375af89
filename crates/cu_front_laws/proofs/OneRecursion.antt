-- Recursions through set calls of one program begin with one function.
use Rattle.std.proofs.Common.{◌≡◌, ℕ, ◌≤◌, ◌<◌, ◌⊎◌, inl, inr, List, ◌∷◌, ◌++◌, refl, ap, subst, arith}
use Rattle.std.proofs.lemmas.Bool.{cases_order}
use Rattle.cu_calculus.specs.Program.{Program}
use Rattle.cu_calculus.specs.declared.FunId.{FunId}
use Rattle.cu_lift.specs.SetCycles.{IsSetRecursion, StandsOn}
use Rattle.cu_lift.specs.Walks as walks
use Rattle.cu_lift.specs.Walks.{Walk}

-- two functions of which neither stands before the other are one
pub one_function : (f g : FunId) → (f.0 < g.0 → ⊥) → (g.0 < f.0 → ⊥) → f ≡ g
one_function f g none_before none_after = by (cases_order f.0 g.0)
  where
    by : (f.0 ≡ g.0) ⊎ ((f.0 < g.0) ⊎ (g.0 < f.0)) → f ≡ g
    by (inl same) = ap (λ (n : ℕ). let e : FunId = record { 0 = n } in e) same
    by (inr (inl less)) = absurd (none_before less)
    by (inr (inr more)) = absurd (none_after more)

not_below : (m n : ℕ) → n ≤ m → m < n → ⊥
not_below m n low less = omega arith

-- a closed walk begins with the function that it leaves first
leaves_first : (program : Program) (start caller first : FunId) (prefix suffix others : List FunId) → Walk program start prefix caller
    → first ∷ others ≡ prefix ++ caller ∷ suffix → start ≡ first
leaves_first program _ _ first _ suffix others (walks.stay f) e = cc
leaves_first program _ _ first _ suffix others (walks.go f g h fs mention rest) e = cc

begins : (program : Program) (first : FunId) (others : List FunId) (is : IsSetRecursion program (first ∷ others)) → is.first ≡ first
begins program first others is =
    leaves_first program is.first is.is_cycle.caller first is.is_cycle.prefix is.is_cycle.suffix others is.is_cycle.to_caller is.is_cycle.whole

stands : (program : Program) (first : FunId) (others : List FunId) → IsSetRecursion program (first ∷ others) → StandsOn program first
stands program first others is = (is.first, first ∷ others, is.is_cycle, (0, omega arith, refl))

-- no function before it stands on one
none_before : (program : Program) (first : FunId) (others : List FunId) → IsSetRecursion program (first ∷ others) → (f : FunId)
    → StandsOn program f → f.0 < first.0 → ⊥
none_before program first others is f on less =
    not_below f.0 first.0 (subst (λ (g : FunId). g.0 ≤ f.0) (begins program first others is) (is.is_first f on)) less

pub one_first : (program : Program) (f g : FunId) (fs gs : List FunId) → IsSetRecursion program (f ∷ fs) → IsSetRecursion program (g ∷ gs)
    → f ≡ g
one_first program f g fs gs one two =
    one_function f g (none_before program g gs two f (stands program f fs one)) (none_before program f fs one g (stands program g gs two))
