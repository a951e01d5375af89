-- Loops over a slice: what is left of it gives what the whole gives.
use Rattle.std.proofs.Common.{◌≡◌, ℕ, ◌+◌, ◌<◌, ◌≤◌, List, [], ◌∷◌, length, get_or, drop, sym, ◌∙◌, ap}
use Rattle.std.proofs.lemmas.List.{at_drop_all}
use Rattle.cu_crwl.proofs.Pairwise.{left}

-- an element that doesn't count
pub skip : {X B : Type 0} (all : List X → B) (xs : List X) (i : ℕ) (x : X) → i < length xs → x ≡ get_or xs i x → (whole : B)
    → all (x ∷ drop (i + 1) xs) ≡ all (drop (i + 1) xs) → all (drop i xs) ≡ whole → all (drop (i + 1) xs) ≡ whole
skip all xs i x below is whole same before = sym (ap all (left xs i x below is) ∙ same) ∙ before

-- an element that decides
pub stop : {X B : Type 0} (all : List X → B) (xs : List X) (i : ℕ) (x : X) → i < length xs → x ≡ get_or xs i x → (answer whole : B)
    → all (x ∷ drop (i + 1) xs) ≡ answer → all (drop i xs) ≡ whole → answer ≡ whole
stop all xs i x below is answer whole same before = sym (ap all (left xs i x below is) ∙ same) ∙ before

-- nothing is left
pub ended : {X B : Type 0} (all : List X → B) (xs : List X) (i : ℕ) → length xs ≤ i → (answer whole : B)
    → all [] ≡ answer → all (drop i xs) ≡ whole → answer ≡ whole
ended all xs i past answer whole same before = sym (at_drop_all all xs i past ∙ same) ∙ before
