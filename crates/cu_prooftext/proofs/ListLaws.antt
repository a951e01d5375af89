-- What is said of readers of lists whose items are separated by commas.
use Rattle.std.proofs.Common.{◌≡◌, ℕ, ◌+◌, Bool, true, false, ◌&&◌, not, List, [], ◌∷◌, ◌++◌, refl, sym, subst, append_assoc, ◌⊎◌, inl, inr, arith, codes, nat_eq}
use Rattle.std.proofs.lemmas.Bool.{and_from, and_parts}
use Rattle.std.specs.List.{flat_map}
use Rattle.cu_prooftext.specs.Inside.Loops.{whole}
use Rattle.cu_prooftext.specs.Inside.Readers.{Reader, is_digit, pair}
use Rattle.cu_prooftext.specs.Inside.Reading.{comma_first, items_at, list_at, list_with, more_follow, next_item, nothing}
use Rattle.cu_prooftext.specs.Text.{further_text, list_text}
use Rattle.cu_prooftext.proofs.EitherLaws.{NotFirst, either_reads}
use Rattle.cu_prooftext.proofs.LoopLaws.{Chain, Loops, chain_starts, whole_reads}
use Rattle.cu_prooftext.proofs.NumberLaws.{no_digit}
use Rattle.cu_prooftext.proofs.ReaderLaws.{Ends, PairGood, Reads, after_reads, made_reads, pair_reads, pair_text}
use Rattle.cu_prooftext.proofs.ValueLaws.{nothing_reads, same_reads}

-- a list stops where neither a digit nor a comma follows
abbrev pub list_end : ℕ → Bool
list_end b = not (is_digit b) && not (nat_eq b 44)

pub ends_weaker : (rest : List ℕ) → Ends list_end rest → Ends no_digit rest
ends_weaker [] e = tt
ends_weaker (b ∷ bs) e = (and_parts (not (is_digit b)) (not (nat_eq b 44)) e).0

-- what may stand in a list, item by item
pub record Items {S A : Type 0} (may : S → Bool) (r : S → Reader A) (next : S → A → S) (t : A → List ℕ) (G : S → A → Type 0) : Type 0 where
  pub reads : (s : S) → may s ≡ true → Reads no_digit (r s) t (G s)
  pub allowed : (s : S) (x : A) → G s x → may s ≡ true
  pub apart : (s : S) (x : A) (rest : List ℕ) → G s x → NotFirst 45 (t x ++ rest)

abbrev pub AnyState : {S : Type 0} → S → Type 0
AnyState s = Unit {0}

-- the items of a list that follow, in a state
abbrev pub Follow : {S A : Type 0} → (S → A → S) → (S → A → Type 0) → S → List A → Type 0
Follow next G = Chain next G AnyState

not_false : (t : Bool) → not t ≡ true → t ≡ false
not_false true h = let never : ⊥ = cc h in absurd never
not_false false h = refl

pub and_false : (a b : Bool) → b ≡ false → (a && b) ≡ false
and_false true b h = h
and_false false b h = refl

no_comma : {S : Type 0} (may : S → Bool) (s : S) (rest : List ℕ) → Ends list_end rest → more_follow may s rest ≡ false
no_comma may s [] e = and_false (may s) false refl
no_comma may s (b ∷ bs) e = and_false (may s) (nat_eq b 44) (not_false (nat_eq b 44) (and_parts (not (is_digit b)) (not (nat_eq b 44)) e).1)

pub item_loops : {S A : Type 0} (may : S → Bool) (r : S → Reader A) (next : S → A → S) (t : A → List ℕ) (G : S → A → Type 0) → Items may r next t G
    → Loops no_digit list_end (more_follow may) (next_item r) next (further_text t) G AnyState
item_loops may r next t G items = record {
  reads = λ s bytes h. after_reads no_digit (codes ",") (r s) t (G s) (items.reads s (and_parts (may s) (comma_first bytes) h).0);
  starts = λ s x rest g. refl;
  goes = λ s x rest g. and_from (may s) true (items.allowed s x g) refl;
  ends = λ s rest d e. no_comma may s rest e;
  weaker = ends_weaker;
  done = λ s bytes h. tt;
  alike = λ s b bs others. refl;
  longer = λ s x g. omega arith;
  finish = λ s. ([], tt);
}

abbrev pub IsList : {S A : Type 0} → (S → A → S) → (S → A → Type 0) → S → List A → Type 0
IsList next G s [] = Unit {0}
IsList next G s (x ∷ xs) = G s x × Follow next G (next s x) xs

abbrev HasItems : {S A : Type 0} → (S → A → S) → (S → A → Type 0) → S → List A → Type 0
HasItems next G s [] = ⊥
HasItems next G s (x ∷ xs) = G s x × Follow next G (next s x) xs

abbrev IsNone : {A : Type 0} → List A → Type 0
IsNone [] = Unit {0}
IsNone (x ∷ xs) = ⊥

items_onto : {S A : Type 0} (next : S → A → S) (G : S → A → Type 0) (s : S) (xs : List A) → HasItems next G s xs
    → (p : A × List A) × PairGood (G s) (λ x. Follow next G (next s x)) p × (list_with p ≡ xs)
items_onto next G s [] h = absurd h
items_onto next G s (x ∷ xs) h = ((x, xs), h, refl)

items_reads : {S A : Type 0} (may : S → Bool) (r : S → Reader A) (next : S → A → S) (t : A → List ℕ) (G : S → A → Type 0) → Items may r next t G
    → (s : S) → may s ≡ true → Reads list_end (items_at may r next s) (list_text t) (HasItems next G s)
items_reads may r next t G items s h =
    made_reads list_end list_with (pair (r s) (λ x. whole (more_follow may) (next_item r) next (next s x))) (pair_text t (λ x. flat_map (further_text t))) (list_text t)
    (PairGood (G s) (λ x. Follow next G (next s x))) (HasItems next G s)
    (pair_reads no_digit list_end (r s) (λ x. whole (more_follow may) (next_item r) next (next s x)) t (λ x. flat_map (further_text t)) (G s) (λ x. Follow next G (next s x))
    (items.reads s h)
    (λ x g. whole_reads no_digit list_end (more_follow may) (next_item r) next (further_text t) G AnyState (item_loops may r next t G items) (next s x))
    (λ x xs rest g f e. chain_starts no_digit list_end (more_follow may) (next_item r) next (further_text t) G AnyState (item_loops may r next t G items) (next s x) xs rest f e))
    (items_onto next G s)
    (λ p g. (g, refl))

none_as : {A : Type 0} (xs : List A) → IsNone xs → (xs ≡ []) × (let e : List ℕ = [] in e ≡ e)
none_as [] h = (refl, refl)
none_as (x ∷ xs) h = absurd h

list_side : {S A : Type 0} (next : S → A → S) (t : A → List ℕ) (G : S → A → Type 0) (s : S) (xs : List A) → IsList next G s xs
    → (IsNone xs × (list_text t xs ≡ 45 ∷ [])) ⊎ (HasItems next G s xs × (list_text t xs ≡ list_text t xs))
list_side next t G s [] h = inl (tt, refl)
list_side next t G s (x ∷ xs) h = inr (h, refl)

list_left : {S A : Type 0} (next : S → A → S) (t : A → List ℕ) (G : S → A → Type 0) (s : S) (xs : List A) → IsNone xs → IsList next G s xs × (list_text t xs ≡ 45 ∷ [])
list_left next t G s [] h = (tt, refl)
list_left next t G s (x ∷ xs) h = absurd h

list_right : {S A : Type 0} (next : S → A → S) (t : A → List ℕ) (G : S → A → Type 0) (s : S) (xs : List A) → HasItems next G s xs → IsList next G s xs × (list_text t xs ≡ list_text t xs)
list_right next t G s [] h = absurd h
list_right next t G s (x ∷ xs) h = (h, refl)

list_apart : {S A : Type 0} (may : S → Bool) (r : S → Reader A) (next : S → A → S) (t : A → List ℕ) (G : S → A → Type 0) → Items may r next t G
    → (s : S) (xs : List A) (rest : List ℕ) → HasItems next G s xs → NotFirst 45 (list_text t xs ++ rest)
list_apart may r next t G items s [] rest h = absurd h
list_apart may r next t G items s (x ∷ xs) rest h =
    subst (NotFirst 45) (sym (append_assoc (t x) (flat_map (further_text t) xs) rest)) (items.apart s x (flat_map (further_text t) xs ++ rest) h.0)

pub list_reads : {S A : Type 0} (may : S → Bool) (r : S → Reader A) (next : S → A → S) (t : A → List ℕ) (G : S → A → Type 0) → Items may r next t G
    → (s : S) → may s ≡ true → Reads list_end (list_at may r next s) (list_text t) (IsList next G s)
list_reads {S} {A} may r next t G items s h =
    let none : List A = [] in
    either_reads list_end 45 (nothing none) (items_at may r next s) (λ xs. []) (list_text t) (list_text t) IsNone (HasItems next G s) (IsList next G s)
    (same_reads list_end (nothing none) (λ xs. []) (λ xs. []) (λ xs. xs ≡ []) IsNone (nothing_reads list_end none) none_as (λ xs e. subst IsNone (sym e) tt))
    (items_reads may r next t G items s h)
    (record { side = list_side next t G s; left = list_left next t G s; right = list_right next t G s; apart = list_apart may r next t G items s })
