-- The step of a division, by its quotient.
use Rattle.std.proofs.Common.{◌≡◌, ℕ, ℤ, pos, Bool, true, false, Option, None, Some, if◌then◌else◌, ap, refl, sym, ◌∙◌}
use Rattle.std.proofs.lemmas.Bool.Decides.{Decides-int_eq}
use Rattle.std.specs.Ordering.{int_eq}
use Rattle.cu_int.specs.Integers.{checked, floor_quotient, is_integer}
use Rattle.cu_calculus.specs.declared.Lit.TheVariants.{Int}
use Rattle.cu_calculus.specs.declared.builtin.Primitive.{Primitive}
use Rattle.cu_calculus.specs.declared.builtin.Primitive.TheVariants as prim
use Rattle.cu_calculus.specs.declared.builtin.Special.{Special}
use Rattle.cu_machine.specs.declared.Kind.TheVariants as kind
use Rattle.cu_machine.specs.Graph.{Graph, alone}
use Rattle.cu_machine.specs.Rewrite.{Overflows, arithmetic_step, failing_step, integer_step, replacement_step}
use Rattle.cu_step.specs.Inside.Numbers.{result_step}

not_true : (b : Bool) → (b ≡ true → ⊥) → b ≡ false
not_true true other = absurd (other refl)
not_true false other = refl

checked_step : (graph : Graph) (id : ℕ) (operation : Primitive) (m n result : ℤ) (b : Bool)
    → result_step graph id operation m n (if b then Some result else None)
    ≡ (if b then replacement_step graph id (alone (kind.Lit (Int result))) else Overflows operation m n)
checked_step graph id operation m n result true = refl
checked_step graph id operation m n result false = refl

-- by a number that isn't 0
pub divided : (special : Special) (graph : Graph) (id : ℕ) (operation : Primitive) (m n : ℤ) (quotient : Option ℤ) → operation ≡ prim.Div → (n ≡ pos 0 → ⊥)
    → quotient ≡ checked (floor_quotient m n) → result_step graph id operation m n quotient ≡ arithmetic_step special graph id operation m n
divided special graph id operation m n quotient is other gives =
    let unlike : int_eq n (pos 0) ≡ false = not_true (int_eq n (pos 0)) (λ same. other ((Decides-int_eq n (pos 0)).0 same)) in
    let result = floor_quotient m n in
    ap (result_step graph id operation m n) gives
    ∙ checked_step graph id operation m n result (is_integer result)
    ∙ ap (λ (p : Primitive). integer_step graph id p m n result) is
    ∙ sym (ap (λ (p : Primitive). arithmetic_step special graph id p m n) is
    ∙ ap (λ (b : Bool). if b then failing_step graph id else integer_step graph id prim.Div m n result) unlike)
