-- Loops that push what they make of each element.
use Rattle.std.proofs.Common.{◌≡◌, ◌∙◌, ℕ, ◌+◌, ◌<◌, ◌≤◌, List, [], ◌∷◌, ◌++◌, ap, ap₂, sym, append_assoc, get_or, length, map, take, take_all}
use Rattle.std.proofs.lemmas.List.{map-append, map_more}

pub pushed : {A B C : Type 0} (f : A → C) (g : B → C) (prefix : List C) (old new : List A) (a : A) (xs : List B) (i : ℕ) (d : B) → i < length xs → f a ≡ g (get_or xs i d) → new ≡ old ++ a ∷ []
    → map f old ≡ prefix ++ map g (take i xs) → map f new ≡ prefix ++ map g (take (i + 1) xs)
pushed f g prefix old new a xs i d within same is before =
    ap (map f) is ∙ map-append f old (a ∷ []) ∙ ap₂ (λ cs c. cs ++ c ∷ []) before same
    ∙ append_assoc prefix (map g (take i xs)) (g (get_or xs i d) ∷ []) ∙ ap (λ cs. prefix ++ cs) (sym (map_more g xs i d within))

pub all_pushed : {A B C : Type 0} (f : A → C) (g : B → C) (prefix : List C) (made : List A) (xs : List B) (i : ℕ) → length xs ≤ i → map f made ≡ prefix ++ map g (take i xs) → map f made ≡ prefix ++ map g xs
all_pushed f g prefix made xs i past is = is ∙ ap (λ ys. prefix ++ map g ys) (take_all i xs past)
