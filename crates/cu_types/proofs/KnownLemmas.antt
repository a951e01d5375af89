-- Type variables that are captured.
use Rattle.std.proofs.Common.{◌≡◌, ℕ, zero, suc, ◌+◌, ◌≤◌, List, [], ◌∷◌, length, slice_index_or, take, refl, sym, ap, ◌∙◌, arith, min}
use Rattle.cu_kernel.specs.TypeExpr as type
use Rattle.cu_kernel.specs.TypeExpr.{TypeExpr}
use Rattle.cu_types.specs.BuiltInTypes.{variables_from}

-- the first of some type variables
pub variables_taken : (n x count : ℕ) → take n (variables_from x count) ≡ variables_from x (min n count)
variables_taken zero x zero = let e : min 0 0 ≡ 0 = omega arith in sym (ap (variables_from x) e)
variables_taken zero x (suc count) = let e : min 0 (suc count) ≡ 0 = omega arith in sym (ap (variables_from x) e)
variables_taken (suc n) x zero = let e : min (suc n) 0 ≡ 0 = omega arith in sym (ap (variables_from x) e)
variables_taken (suc n) x (suc count) =
    let e : min (suc n) (suc count) ≡ suc (min n count) = omega arith in
    ap (λ (ts : List TypeExpr). type.Variable x ∷ ts) (variables_taken n (x + 1) count) ∙ sym (ap (variables_from x) e)

-- where a list has no type
pub past_default : (ts : List TypeExpr) (i : ℕ) (d : TypeExpr) → length ts ≤ i → slice_index_or ts i d ≡ d
past_default [] i d past = refl
past_default (t ∷ ts) zero d past = absurd (omega arith)
past_default (t ∷ ts) (suc i) d past = past_default ts i d (omega arith)
