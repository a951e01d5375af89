-- Work lists, of which the last is taken first.
use Rattle.std.proofs.Common.{◌≡◌, ℕ, ◌-◌, List, [], ◌∷◌, ◌++◌, ap, ◌∙◌, take, reverse}
use Rattle.std.proofs.lemmas.List.{reverse-append, reverse-reverse}

-- the last of a list is the first of its reversal
pub last_first : {A : Type 0} (all rest : List A) (x : A) → all ≡ rest ++ x ∷ [] → reverse all ≡ x ∷ reverse rest
last_first all rest x is = ap reverse is ∙ reverse-append rest (x ∷ [])

-- what was added in reverse comes first
pub added_first : {A : Type 0} (all rest xs : List A) → all ≡ rest ++ reverse xs → reverse all ≡ xs ++ reverse rest
added_first all rest xs is = ap reverse is ∙ reverse-append rest (reverse xs) ∙ ap (λ prefix. prefix ++ reverse rest) (reverse-reverse xs)

-- where nothing was left to take
pub none_taken : {A : Type 0} (olds news : List A) (count : ℕ) → count ≡ 0 → news ≡ take (count - 1) olds → olds ≡ news ++ [] → olds ≡ []
none_taken olds news count none is was = was ∙ ap (λ xs. xs ++ []) (is ∙ ap (λ n. take (n - 1) olds) none)
