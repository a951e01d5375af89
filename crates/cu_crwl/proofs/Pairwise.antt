-- Loops that compare two lists, element by element.
use Rattle.std.proofs.Common.{◌≡◌, ◌≢◌, ℕ, suc, ◌+◌, ◌<◌, ◌≤◌, Bool, true, false, ◌&&◌, List, [], ◌∷◌, length, get_or, drop, refl, sym, ◌∙◌, ap, add-one, arith, drop-cons}
use Rattle.std.proofs.lemmas.List.{at_drop_all}

-- what is left begins with the next element
pub left : {X : Type 0} (xs : List X) (i : ℕ) (x : X) → i < length xs → x ≡ get_or xs i x → drop i xs ≡ x ∷ drop (i + 1) xs
left xs i x below is = rw add-one (drop-cons xs i x below ∙ ap (λ y. y ∷ drop (suc i) xs) (sym is))

-- a test of two lists that are compared from the left, by a test of elements
pub record IsPairwise {X Y : Type 0} (all : List X → List Y → Bool) (one : X → Y → Bool) : Type 0 where
  pub none : all [] [] ≡ true
  pub more : (x : X) (y : Y) (xs : List X) (ys : List Y) → all (x ∷ xs) (y ∷ ys) ≡ one x y && all xs ys
  pub short : (x : X) (xs : List X) → all (x ∷ xs) [] ≡ false
  pub long : (y : Y) (ys : List Y) → all [] (y ∷ ys) ≡ false

pub lengths_differ : {X Y : Type 0} (all : List X → List Y → Bool) (one : X → Y → Bool) → IsPairwise all one
    → (xs : List X) (ys : List Y) → length xs ≢ length ys → false ≡ all xs ys
lengths_differ all one is [] [] n = absurd (n refl)
lengths_differ all one is (x ∷ xs) [] n = sym (is.short x xs)
lengths_differ all one is [] (y ∷ ys) n = sym (is.long y ys)
lengths_differ all one is (x ∷ xs) (y ∷ ys) n =
    let rest : false ≡ all xs ys = lengths_differ all one is xs ys (λ e. n (ap suc e)) in
    go (one x y) ∙ ap (λ b. one x y && b) rest ∙ sym (is.more x y xs ys)
  where
    go : (b : Bool) → false ≡ (b && false)
    go true = refl
    go false = refl

pub next : {X Y : Type 0} (all : List X → List Y → Bool) (one : X → Y → Bool) → IsPairwise all one
    → (xs : List X) (ys : List Y) (i : ℕ) (x : X) (y : Y) → i < length xs → length xs ≡ length ys → x ≡ get_or xs i x → y ≡ get_or ys i y
    → all (drop i xs) (drop i ys) ≡ one x y && all (drop (i + 1) xs) (drop (i + 1) ys)
next all one is xs ys i x y below same at other =
    let within : i < length ys = omega arith in
    ap (λ z. all z (drop i ys)) (left xs i x below at) ∙ ap (all (x ∷ drop (i + 1) xs)) (left ys i y within other)
    ∙ is.more x y (drop (i + 1) xs) (drop (i + 1) ys)

pub goes_on : {X Y : Type 0} (all : List X → List Y → Bool) (one : X → Y → Bool) → IsPairwise all one
    → (xs : List X) (ys : List Y) (i : ℕ) (x : X) (y : Y) → i < length xs → length xs ≡ length ys → x ≡ get_or xs i x → y ≡ get_or ys i y
    → one x y ≡ true → all (drop i xs) (drop i ys) ≡ all xs ys → all (drop (i + 1) xs) (drop (i + 1) ys) ≡ all xs ys
goes_on all one is xs ys i x y below same at other passes before =
    sym (next all one is xs ys i x y below same at other ∙ ap (λ b. b && all (drop (i + 1) xs) (drop (i + 1) ys)) passes) ∙ before

pub stops : {X Y : Type 0} (all : List X → List Y → Bool) (one : X → Y → Bool) → IsPairwise all one
    → (xs : List X) (ys : List Y) (i : ℕ) (x : X) (y : Y) → i < length xs → length xs ≡ length ys → x ≡ get_or xs i x → y ≡ get_or ys i y
    → one x y ≡ false → all (drop i xs) (drop i ys) ≡ all xs ys → false ≡ all xs ys
stops all one is xs ys i x y below same at other fails before =
    sym (next all one is xs ys i x y below same at other ∙ ap (λ b. b && all (drop (i + 1) xs) (drop (i + 1) ys)) fails) ∙ before

pub ends : {X Y : Type 0} (all : List X → List Y → Bool) (one : X → Y → Bool) → IsPairwise all one
    → (xs : List X) (ys : List Y) (i : ℕ) → length xs ≤ i → length xs ≡ length ys
    → all (drop i xs) (drop i ys) ≡ all xs ys → true ≡ all xs ys
ends all one is xs ys i past same before =
    let beyond : length ys ≤ i = omega arith in
    sym (at_drop_all (λ z. all z (drop i ys)) xs i past ∙ at_drop_all (all []) ys i beyond ∙ is.none) ∙ before
