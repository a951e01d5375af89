-- Lists of what is left.
use Rattle.std.proofs.Common.{◌≡◌, ℕ, ◌-◌, List, [], ◌∷◌, ◌++◌, Option, None, Some, Result, Ok, Err, IfOk, IfSome, take, refl, ap, ◌∙◌}
use Rattle.std.specs.Prelude.{Bool, true, false}
use lib.Pointwise.{pointwise}
use mathlib.Core.Bool.{beq}

-- where the last couldn't be taken, nothing is left
pub nothing_left : {A : Type 0} → (olds news : List A) (count : ℕ) → count ≡ 0 → news ≡ take (count - 1) olds → olds ≡ news ++ [] → olds ≡ []
nothing_left olds news count none is was = was ∙ ap (λ xs. xs ++ []) (is ∙ ap (λ n. take (n - 1) olds) none)

pub if_ok : {A E : Type 0} → (r : Result A E) (P Q : A → Type 0) → ((a : A) → P a → Q a) → IfOk r P → IfOk r Q
if_ok (Ok a) P Q into p = into a p
if_ok (Err e) P Q into p = tt

pub always_there : {A E P : Type 0} → (r : Result (Option A) E) → P → IfOk r (λ found. IfSome found (λ a. P))
always_there (Ok (Some a)) p = p
always_there (Ok None) p = tt
always_there (Err e) p = tt

pub same_bits : (xs ys : List Bool) → pointwise beq xs ys ≡ true → xs ≡ ys
same_bits [] [] is = refl
same_bits [] (y ∷ ys) is = let none : ⊥ = cc in absurd none
same_bits (x ∷ xs) [] is = let none : ⊥ = cc in absurd none
same_bits (true ∷ xs) (true ∷ ys) is = ap (λ zs. true ∷ zs) (same_bits xs ys is)
same_bits (false ∷ xs) (false ∷ ys) is = ap (λ zs. false ∷ zs) (same_bits xs ys is)
same_bits (true ∷ xs) (false ∷ ys) is = let none : ⊥ = cc in absurd none
same_bits (false ∷ xs) (true ∷ ys) is = let none : ⊥ = cc in absurd none
