-- What is left to do of the places that a test passes.
use Rattle.std.proofs.Common.{◌≡◌, ◌≢◌, ℕ, zero, suc, ◌+◌, Bool, true, false, cond, List, [], ◌∷◌, Some, slice_get, refl, ap, ◌∙◌, arith}
use Rattle.cu_types.specs.Inside.Closing.{owed, weight}
use Rattle.cu_types.specs.Table.{Shape}

pub owed_same : (ss : List Shape) (flags then : ℕ → Bool) → ((k : ℕ) → then k ≡ flags k) → owed then ss ≡ owed flags ss
owed_same [] flags then same = refl
owed_same (s ∷ ss) flags then same =
    let first : then 0 ≡ flags 0 = same 0 in
    let rest : owed (λ k. then (suc k)) ss ≡ owed (λ k. flags (suc k)) ss =
    owed_same ss (λ k. flags (suc k)) (λ k. then (suc k)) (λ k. same (suc k)) in
    ap (λ (b : Bool). cond b (weight s) 0 + owed (λ k. then (suc k)) ss) first
    ∙ ap (λ (n : ℕ). cond (flags 0) (weight s) 0 + n) rest

-- one place less
pub owed_less : (ss : List Shape) (r : ℕ) (s : Shape) (flags then : ℕ → Bool) → slice_get ss r ≡ Some s → flags r ≡ true
    → then r ≡ false → ((k : ℕ) → k ≢ r → then k ≡ flags k) → owed then ss + weight s ≡ owed flags ss
owed_less [] r s flags then is was now others = let no : ⊥ = cc in absurd no
owed_less (x ∷ ss) zero s flags then is was now others =
    let e : x ≡ s = cc in
    let rest : owed (λ k. then (suc k)) ss ≡ owed (λ k. flags (suc k)) ss =
    owed_same ss (λ k. flags (suc k)) (λ k. then (suc k)) (λ k. others (suc k) (λ no. absurd (omega arith))) in
    let left : cond (then 0) (weight x) 0 ≡ 0 = ap (λ (b : Bool). cond b (weight x) 0) now in
    let right : cond (flags 0) (weight x) 0 ≡ weight x = ap (λ (b : Bool). cond b (weight x) 0) was in
    let same : weight x ≡ weight s = ap weight e in
    omega arith
owed_less (x ∷ ss) (suc r) s flags then is was now others =
    let first : then 0 ≡ flags 0 = others 0 (λ no. absurd (omega arith)) in
    let rest : owed (λ k. then (suc k)) ss + weight s ≡ owed (λ k. flags (suc k)) ss =
    owed_less ss r s (λ k. flags (suc k)) (λ k. then (suc k)) is was now (λ k n. others (suc k) (λ e. n (omega arith))) in
    let head : cond (then 0) (weight x) 0 ≡ cond (flags 0) (weight x) 0 = ap (λ (b : Bool). cond b (weight x) 0) first in
    omega arith
