-- What holds of the elements of lists, and of what an answer holds.
use Rattle.std.proofs.Common.{◌≡◌, ◌<◌, ℕ, zero, suc, List, [], ◌∷◌, ◌++◌, Option, None, Some, ap, sym, ◌∙◌, length, map, get_or, arith, append_assoc}
use Rattle.std.proofs.lemmas.List.{map-append}
use Rattle.std.specs.List.{All}
use Rattle.std.specs.Option.{IfNone, IfSome}

pub some_to : {A : Type 0} {P Q : A → Type 0} (o : Option A) → ((x : A) → P x → Q x) → IfSome o P → IfSome o Q
some_to None f is = tt
some_to (Some x) f is = f x is

pub none_to : {A P Q : Type 0} (o : Option A) → (P → Q) → IfNone o P → IfNone o Q
none_to None f is = f is
none_to (Some x) f is = tt

-- what holds of all images holds so of what they are images of
mapped_at : {A B : Type 0} (f : A → B) (P : B → Type 0) (xs : List A) (k : ℕ) (d : A) → All P (map f xs) → k < length xs → P (f (get_or xs k d))
mapped_at f P [] k d all below = let no : ⊥ = omega arith in absurd no
mapped_at f P (x ∷ xs) zero d all below = all zero (f d) (omega arith)
mapped_at f P (x ∷ xs) (suc k) d all below = mapped_at f P xs k d (λ j e less. all (suc j) e (omega arith)) (omega arith)

pub all_mapped : {A B : Type 0} (f : A → B) (P : B → Type 0) (xs : List A) → All P (map f xs) → All (λ x. P (f x)) xs
all_mapped f P xs all = λ k d below. mapped_at f P xs k d all below

-- what holds of all holds of the first one, and of those after it
pub first_has : {A : Type 0} (P : A → Type 0) (x : A) (later : List A) → All P (x ∷ later) → P x
first_has P x later all = all zero x (omega arith)

pub later_have : {A : Type 0} (P : A → Type 0) (x : A) (later : List A) → All P (x ∷ later) → All P later
later_have P x later all = λ k d below. all (suc k) d (omega arith)

-- one more is done, and is what is wanted of the first that was left
pub one_done : {A B C : Type 0} (of : A → C) (at : B → C) (done after : List A) (one : A) (x : B) (left later : List B) (all : List C) → left ≡ x ∷ later → after ≡ done ++ one ∷ []
    → of one ≡ at x → map of done ++ map at left ≡ all → map of after ++ map at later ≡ all
one_done of at done after one x left later all first pushed same before =
    ap (λ ys. map of ys ++ map at later) pushed
    ∙ ap (λ ys. ys ++ map at later) (map-append of done (one ∷ []))
    ∙ append_assoc (map of done) (of one ∷ []) (map at later)
    ∙ ap (λ c. map of done ++ c ∷ map at later) same
    ∙ ap (λ ys. map of done ++ map at ys) (sym first)
    ∙ before
