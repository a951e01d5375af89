-- What printing a module begins with.
use Rattle.std.proofs.Common.{◌≡◌, ℕ, ◌<◌, ◌≤◌, List, [], Option, Result, OnErr, arith, drop, length, map, subst, sym, ap, ◌∙◌}
use Rattle.std.proofs.lemmas.List.{drop_all}
use Rattle.cu_flattext.specs.Written.{AddsPrefix}
use Rattle.cu_flattext.proofs.CircleLemmas.{mapped_length}

-- of fewer than n there is none from the place n on
pub none_from : {A B : Type 0} → (f : A → B) (xs : List A) (ys : List B) (n : ℕ) → map f xs ≡ ys → length xs < n → [] ≡ drop n ys
none_from {B = B} f xs ys n is few =
    let short : length xs ≤ n = omega arith in
    sym (ap (λ (zs : List B). drop n zs) (sym is) ∙ drop_all n (map f xs) (rw (mapped_length f xs) short))

-- a prefix of a text is one of the same text
pub prefix_of_same : {A E : Type 0} → (r : Result A E) (before after : Option (List ℕ)) (whole text : List ℕ)
    → OnErr r (AddsPrefix before after whole) → whole ≡ text → OnErr r (AddsPrefix before after text)
prefix_of_same r before after whole text prefix same =
    subst (λ (t : List ℕ). OnErr r (AddsPrefix before after t)) same prefix
