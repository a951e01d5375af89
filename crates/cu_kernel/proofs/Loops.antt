-- Loops over a slice: what is left of it gives what the whole gives.
use Rattle.std.proofs.Common.{◌≡◌, ℕ, suc, ◌+◌, ◌<◌, ◌≤◌, Bool, true, false, ◌&&◌, List, [], ◌∷◌, ◌++◌, length, get_or, drop, sym, ◌∙◌, ap, append_assoc, add-one, drop-cons}
use Rattle.std.proofs.lemmas.List.{append-nil, at_drop_all}

-- what is left begins with the next element
pub left : {X : Type 0} (xs : List X) (i : ℕ) (x : X) → i < length xs → x ≡ get_or xs i x → drop i xs ≡ x ∷ drop (i + 1) xs
left xs i x below is =
    rw add-one (drop-cons xs i x below ∙ ap (λ y. y ∷ drop (suc i) xs) (sym is))

-- a loop that pushes what each element gives
pub pushed : {X Y : Type 0} (all : List X → List Y) (one : X → List Y) → ((x : X) (xs : List X) → all (x ∷ xs) ≡ one x ++ all xs)
    → (xs : List X) (i : ℕ) (x : X) → i < length xs → x ≡ get_or xs i x → (done new whole : List Y)
    → new ≡ done ++ one x → done ++ all (drop i xs) ≡ whole → new ++ all (drop (i + 1) xs) ≡ whole
pushed all one step xs i x below is done new whole more before =
    ap (λ ys. ys ++ all (drop (i + 1) xs)) more ∙ append_assoc done (one x) (all (drop (i + 1) xs))
    ∙ ap (λ ys. done ++ ys) (sym (step x (drop (i + 1) xs)) ∙ ap all (sym (left xs i x below is))) ∙ before

pub all_pushed : {X Y : Type 0} (all : List X → List Y) → all [] ≡ [] → (xs : List X) (i : ℕ) → length xs ≤ i → (done whole : List Y)
    → done ++ all (drop i xs) ≡ whole → done ≡ whole
all_pushed all none xs i past done whole before =
    sym (ap (λ ys. done ++ ys) (at_drop_all all xs i past ∙ none) ∙ append-nil done) ∙ before

-- a loop that tests each element, up to the first that fails
pub passed : {X : Type 0} (all : List X → Bool) (one : X → Bool) → ((x : X) (xs : List X) → all (x ∷ xs) ≡ one x && all xs)
    → (xs : List X) (i : ℕ) (x : X) → i < length xs → x ≡ get_or xs i x → (whole : Bool)
    → one x ≡ true → all (drop i xs) ≡ whole → all (drop (i + 1) xs) ≡ whole
passed all one step xs i x below is whole passes before =
    sym (ap all (left xs i x below is) ∙ step x (drop (i + 1) xs) ∙ ap (λ b. b && all (drop (i + 1) xs)) passes) ∙ before

pub failed : {X : Type 0} (all : List X → Bool) (one : X → Bool) → ((x : X) (xs : List X) → all (x ∷ xs) ≡ one x && all xs)
    → (xs : List X) (i : ℕ) (x : X) → i < length xs → x ≡ get_or xs i x → (whole : Bool)
    → one x ≡ false → all (drop i xs) ≡ whole → false ≡ whole
failed all one step xs i x below is whole fails before =
    sym (ap all (left xs i x below is) ∙ step x (drop (i + 1) xs) ∙ ap (λ b. b && all (drop (i + 1) xs)) fails) ∙ before

pub all_passed : {X : Type 0} (all : List X → Bool) → all [] ≡ true → (xs : List X) (i : ℕ) → length xs ≤ i → (whole : Bool)
    → all (drop i xs) ≡ whole → true ≡ whole
all_passed all none xs i past whole before = sym (at_drop_all all xs i past ∙ none) ∙ before
