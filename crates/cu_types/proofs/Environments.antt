-- Environments in a map, and environments that are restored.
use Rattle.std.proofs.Common.{◌≡◌, ℕ, Bool, true, false, cond, inl, inr, Option, Some, nat_eq, refl, ap, ◌∙◌}
use Rattle.std.proofs.lemmas.Bool.{cases_eq, eq-eqb, ne_eqb}
use mathlib.Core.Path.{fun_ext}
use Rattle.cu_types.specs.Equations.{Environment, bind}
use Rattle.cu_types.specs.Inside.Variables.{or_zero}

-- a map in which one answer was changed
changed : (b : Bool) (t : ℕ) (o : Option ℕ) → or_zero (cond b (Some t) o) ≡ cond b t (or_zero o)
changed true t o = refl
changed false t o = refl

pub bound_in : (old new : ℕ → Option ℕ) (x t : ℕ) → ((y : ℕ) → new y ≡ cond (nat_eq x y) (Some t) (old y))
    → (λ y. or_zero (new y)) ≡ bind (λ y. or_zero (old y)) x t
bound_in old new x t is = fun_ext (λ y. ap or_zero (is y) ∙ changed (nat_eq x y) t (old y))

-- a variable that is bound to what it had
bound_again : (env : Environment) (x t y : ℕ) → bind (bind env x t) x (env x) y ≡ env y
bound_again env x t y = elim (cases_eq x y) [
  | inl same ↦ ap (λ (b : Bool). cond b (env x) (bind env x t y)) (eq-eqb x y same) ∙ ap env same
  | inr other ↦
      ap (λ (b : Bool). cond b (env x) (bind env x t y)) (ne_eqb x y other)
      ∙ ap (λ (b : Bool). cond b t (env y)) (ne_eqb x y other)
]

pub restored : (env : Environment) (x t : ℕ) → bind (bind env x t) x (env x) ≡ env
restored env x t = fun_ext (bound_again env x t)
