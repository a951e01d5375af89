-- Tables that keep the first place of each key.
use Rattle.std.proofs.Common.{◌≡◌, ◌∙◌, ◌<◌, ◌≤◌, ◌+◌, ℕ, Bool, true, false, List, [], ◌∷◌, ◌++◌, Option, None, Some, Decides, arith, cond, length, length-append, ltb, map, refl, sym, ap, ap₂, subst, add-one, get_or, take, take-suc}
use Rattle.std.proofs.lemmas.Bool.{both_ways, ltb-false}
use Rattle.std.proofs.lemmas.List.{append_assoc}
use Rattle.std.proofs.lemmas.List.Sums.{prefix_len-le-length}
use Rattle.std.proofs.lemmas.Iterator.Adapters.{position_from-zero}
use Rattle.std.proofs.lemmas.Bool.Decides.{Decides-and, Decides-eqb}
use Rattle.std.specs.HashMap.{get}
use Rattle.std.specs.Prelude.{is_some, nat_eq, not, unwrap_or}
use Rattle.std.specs.List.{position, position_from, position_or_len}
use Rattle.cu_translation.specs.declared.local_names.Binder as code
use Rattle.cu_translation.specs.declared.local_names.Binder.TheVariants as binder
use Rattle.cu_translation.specs.declared.position.Position.{Position}
use Rattle.cu_translation.specs.LocalNames as local
use Rattle.cu_translation.specs.LocalNames.{same_place}
use Rattle.cu_translation.specs.Meaning.{binder_meaning, position_meaning}
use Rattle.cu_translation.specs.contracts.local_names.BinderPartialEq.TheImpl as binders
use Rattle.cu_translation.specs.contracts.position.PositionPartialEq.TheImpl as positions
use Rattle.cu_sites.specs.Numbered.{IsBinderTable, IsPlaceTable, same_binder, same_position}
use Rattle.cu_sites.specs.declared.numbers.BinderTable.{BinderTable}
use Rattle.cu_sites.specs.declared.numbers.PlaceTable.{PlaceTable}

-- what is there, or else the other
abbrev or_else : {X : Type 0} → Option X → Option X → Option X
or_else (Some x) o = Some x
or_else None o = o

or_else_none : {X : Type 0} (o : Option X) → or_else o None ≡ o
or_else_none None = refl
or_else_none (Some x) = refl

from_pushed : {X : Type 0} (p : X → Bool) (n : ℕ) (xs : List X) (y : X) → position_from p n (xs ++ y ∷ []) ≡ or_else (position_from p n xs) (cond (p y) (Some (n + length xs)) None)
from_pushed p n [] y = ap (λ k. cond (p y) (Some k) None) (omega arith)
from_pushed p n (x ∷ xs) y =
    by (p x) (from_pushed p (n + 1) xs y ∙ ap (λ k. or_else (position_from p (n + 1) xs) (cond (p y) (Some k) None)) (omega arith))
  where
    by : (b : Bool) → position_from p (n + 1) (xs ++ y ∷ []) ≡ or_else (position_from p (n + 1) xs) (cond (p y) (Some (n + length (x ∷ xs))) None)
        → cond b (Some n) (position_from p (n + 1) (xs ++ y ∷ [])) ≡ or_else (cond b (Some n) (position_from p (n + 1) xs)) (cond (p y) (Some (n + length (x ∷ xs))) None)
    by true rest = refl
    by false rest = rest

position_pushed : {X : Type 0} (p : X → Bool) (xs : List X) (y : X) → position p (xs ++ y ∷ []) ≡ or_else (position p xs) (cond (p y) (Some (length xs)) None)
position_pushed p xs y =
    position_from-zero p (xs ++ y ∷ []) ∙ from_pushed p 0 xs y ∙ ap₂ (λ o k. or_else o (cond (p y) (Some k) None)) (sym (position_from-zero p xs)) (omega arith)

-- the key is new
first_pushed : {X : Type 0} (same : X → X → Bool) (decides : (x y : X) → Decides (same x y) (x ≡ y)) (keys : List X) (k : X) (old new : X → Option ℕ) → ((x : X) → old x ≡ position (same x) keys) → old k ≡ None
    → ((x : X) → new x ≡ cond (same k x) (Some (length keys)) (old x)) → (x : X) → new x ≡ position (same x) (keys ++ k ∷ [])
first_pushed same decides keys k old new has none updated x =
    updated x ∙ by (same k x) refl ∙ ap (λ o. or_else o (cond (same x k) (Some (length keys)) None)) (has x) ∙ sym (position_pushed (same x) keys k)
  where
    by : (b : Bool) → same k x ≡ b → cond b (Some (length keys)) (old x) ≡ or_else (old x) (cond (same x k) (Some (length keys)) None)
    by true is =
        let e = (decides k x).0 is in
        sym (ap₂ (λ o b. or_else o (cond b (Some (length keys)) None)) (sym (ap old e) ∙ none) ((decides x k).1 (sym e)))
    by false is = sym (ap (λ b. or_else (old x) (cond b (Some (length keys)) None)) (differs (same x k) refl) ∙ or_else_none (old x))
      where
        differs : (b : Bool) → same x k ≡ b → same x k ≡ false
        differs true e = absurd (both_ways (same k x) is ((decides k x).1 (sym ((decides x k).0 e))))
        differs false e = e

-- the key stands there already
again_pushed : {X : Type 0} (same : X → X → Bool) (decides : (x y : X) → Decides (same x y) (x ≡ y)) (keys : List X) (k : X) (n : ℕ) (old : X → Option ℕ) → ((x : X) → old x ≡ position (same x) keys) → old k ≡ Some n
    → (x : X) → old x ≡ position (same x) (keys ++ k ∷ [])
again_pushed same decides keys k n old has there x =
    by (same x k) refl ∙ ap (λ o. or_else o (cond (same x k) (Some (length keys)) None)) (has x) ∙ sym (position_pushed (same x) keys k)
  where
    by : (b : Bool) → same x k ≡ b → old x ≡ or_else (old x) (cond (same x k) (Some (length keys)) None)
    by true is =
        let e = ap old ((decides x k).0 is) ∙ there in
        e ∙ sym (ap (λ o. or_else o (cond (same x k) (Some (length keys)) None)) e)
    by false is = sym (ap (λ b. or_else (old x) (cond b (Some (length keys)) None)) is ∙ or_else_none (old x))

-- the place of a key, or how many there are
pub place_or_all : {X : Type 0} (p : X → Bool) (xs : List X) (o : Option ℕ) (count : ℕ) → o ≡ position p xs → count ≡ length xs → unwrap_or o count ≡ position_or_len p xs
place_or_all p xs o count is counted = ap₂ unwrap_or is counted ∙ by (position_or_len p xs) (prefix_len-le-length (λ x. not (p x)) xs)
  where
    by : (n : ℕ) → n ≤ length xs → unwrap_or (cond (ltb n (length xs)) (Some n) None) (length xs) ≡ n
    by n within = either (ltb n (length xs)) refl
      where
        either : (b : Bool) → ltb n (length xs) ≡ b → unwrap_or (cond b (Some n) None) (length xs) ≡ n
        either true is = refl
        either false is = let l = ltb-false n (length xs) is in omega (arith, within, l)

-- the same place among what the keys stand for
pub place_of_meanings : {X Y : Type 0} (f : X → Y) (p : X → Bool) (q : Y → Bool) → ((x : X) → p x ≡ q (f x)) → (xs : List X) → position_or_len p xs ≡ position_or_len q (map f xs)
place_of_meanings f p q same [] = refl
place_of_meanings f p q same (x ∷ xs) = ap₂ (λ b n. cond (not b) (1 + n) 0) (same x) (place_of_meanings f p q same xs)

-- ---- tests of keys

abbrev position_at : ℕ → ℕ → Position
position_at line column = record { line = line; column = column }

pub same_positions : (p q : Position) → same_position p q ≡ same_place (position_meaning p) (position_meaning q)
same_positions p q = refl

position_decides : (p q : Position) → Decides (same_position p q) (p ≡ q)
position_decides p q =
    let both = Decides-and (nat_eq p.line q.line) (nat_eq p.column q.column) (Decides-eqb p.line q.line) (Decides-eqb p.column q.column) in
    (λ e. ap₂ position_at (both.0 e).0 (both.0 e).1, λ e. both.1 (ap (λ r. r.line) e, ap (λ r. r.column) e))

pub same_binders : (b c : code.Binder) → same_binder b c ≡ local.same_binder (binder_meaning b) (binder_meaning c)
same_binders (binder.At p) (binder.At q) = refl
same_binders (binder.At p) (binder.Whole q) = refl
same_binders (binder.At p) (binder.Otherwise q) = refl
same_binders (binder.At p) (binder.Selected q y) = refl
same_binders (binder.Whole p) (binder.At q) = refl
same_binders (binder.Whole p) (binder.Whole q) = refl
same_binders (binder.Whole p) (binder.Otherwise q) = refl
same_binders (binder.Whole p) (binder.Selected q y) = refl
same_binders (binder.Otherwise p) (binder.At q) = refl
same_binders (binder.Otherwise p) (binder.Whole q) = refl
same_binders (binder.Otherwise p) (binder.Otherwise q) = refl
same_binders (binder.Otherwise p) (binder.Selected q y) = refl
same_binders (binder.Selected p x) (binder.At q) = refl
same_binders (binder.Selected p x) (binder.Whole q) = refl
same_binders (binder.Selected p x) (binder.Otherwise q) = refl
same_binders (binder.Selected p x) (binder.Selected q y) = refl

no : {P : Type 0} → false ≡ true → P
no e = let bottom : ⊥ = cc in absurd bottom

alike : (b c : code.Binder) → same_binder b c ≡ true → b ≡ c
alike (binder.At p) (binder.At q) e = ap binder.At ((position_decides p q).0 e)
alike (binder.At p) (binder.Whole q) e = no e
alike (binder.At p) (binder.Otherwise q) e = no e
alike (binder.At p) (binder.Selected q y) e = no e
alike (binder.Whole p) (binder.At q) e = no e
alike (binder.Whole p) (binder.Whole q) e = ap binder.Whole ((position_decides p q).0 e)
alike (binder.Whole p) (binder.Otherwise q) e = no e
alike (binder.Whole p) (binder.Selected q y) e = no e
alike (binder.Otherwise p) (binder.At q) e = no e
alike (binder.Otherwise p) (binder.Whole q) e = no e
alike (binder.Otherwise p) (binder.Otherwise q) e = ap binder.Otherwise ((position_decides p q).0 e)
alike (binder.Otherwise p) (binder.Selected q y) e = no e
alike (binder.Selected p x) (binder.At q) e = no e
alike (binder.Selected p x) (binder.Whole q) e = no e
alike (binder.Selected p x) (binder.Otherwise q) e = no e
alike (binder.Selected p x) (binder.Selected q y) e =
    let both = (Decides-and (same_position p q) (same_position x y) (position_decides p q) (position_decides x y)).0 e in ap₂ binder.Selected both.0 both.1

itself : (b : code.Binder) → same_binder b b ≡ true
itself (binder.At p) = (position_decides p p).1 refl
itself (binder.Whole p) = (position_decides p p).1 refl
itself (binder.Otherwise p) = (position_decides p p).1 refl
itself (binder.Selected p x) = (Decides-and (same_position p p) (same_position x x) (position_decides p p) (position_decides x x)).1 (refl, refl)

binder_decides : (b c : code.Binder) → Decides (same_binder b c) (b ≡ c)
binder_decides b c = (alike b c, λ e. subst (λ d. same_binder b d ≡ true) e (itself b))

-- ---- one more key

no_key : (o : Option ℕ) (r : Bool) → r ≡ is_some o → r ≡ false → o ≡ None
no_key None r is e = refl
no_key (Some n) r is e = no (sym e ∙ is)

a_key : (o : Option ℕ) (r : Bool) → r ≡ is_some o → r ≡ true → (n : ℕ) × (o ≡ Some n)
a_key None r is e = no (sym is ∙ e)
a_key (Some n) r is e = (n, refl)

counted_one : {X : Type 0} (keys : List X) (x : X) (old new : ℕ) → old ≡ length keys → new ≡ old + 1 → new ≡ length (keys ++ x ∷ [])
counted_one keys x old new was more = more ∙ ap (λ n. n + 1) was ∙ sym (length-append keys (x ∷ []))

pub new_binder : (keys : List code.Binder) (b : code.Binder) (a s : BinderTable) (there : Bool) → IsBinderTable keys a → s.count ≡ a.count + 1 → there ≡ is_some (get binders.eq-value.it a.numbers b) → there ≡ false
    → ((k : code.Binder) → get binders.eq-value.it s.numbers k ≡ cond (same_binder b k) (Some a.count) (get binders.eq-value.it a.numbers k)) → IsBinderTable (keys ++ b ∷ []) s
new_binder keys b a s there has more test absent updated = record {
  counted = counted_one keys b a.count s.count has.counted more;
  found = first_pushed same_binder binder_decides keys b (get binders.eq-value.it a.numbers) (get binders.eq-value.it s.numbers) has.found (no_key (get binders.eq-value.it a.numbers b) there test absent)
      (λ k. updated k ∙ ap (λ n. cond (same_binder b k) (Some n) (get binders.eq-value.it a.numbers k)) has.counted);
}

pub old_binder : (keys : List code.Binder) (b : code.Binder) (a s : BinderTable) (there : Bool) → IsBinderTable keys a → s.count ≡ a.count + 1 → there ≡ is_some (get binders.eq-value.it a.numbers b) → there ≡ true
    → s.numbers ≡ a.numbers → IsBinderTable (keys ++ b ∷ []) s
old_binder keys b a s there has more test stands same =
    let at = a_key (get binders.eq-value.it a.numbers b) there test stands in
    record {
      counted = counted_one keys b a.count s.count has.counted more;
      found = λ k. ap (λ m. get binders.eq-value.it m k) same ∙ again_pushed same_binder binder_decides keys b at.0 (get binders.eq-value.it a.numbers) has.found at.1 k;
    }

pub new_place : (keys : List Position) (p : Position) (a s : PlaceTable) (there : Bool) → IsPlaceTable keys a → s.count ≡ a.count + 1 → there ≡ is_some (get positions.eq-value.it a.numbers p) → there ≡ false
    → ((k : Position) → get positions.eq-value.it s.numbers k ≡ cond (same_position p k) (Some a.count) (get positions.eq-value.it a.numbers k)) → IsPlaceTable (keys ++ p ∷ []) s
new_place keys p a s there has more test absent updated = record {
  counted = counted_one keys p a.count s.count has.counted more;
  found = first_pushed same_position position_decides keys p (get positions.eq-value.it a.numbers) (get positions.eq-value.it s.numbers) has.found (no_key (get positions.eq-value.it a.numbers p) there test absent)
      (λ k. updated k ∙ ap (λ n. cond (same_position p k) (Some n) (get positions.eq-value.it a.numbers k)) has.counted);
}

pub old_place : (keys : List Position) (p : Position) (a s : PlaceTable) (there : Bool) → IsPlaceTable keys a → s.count ≡ a.count + 1 → there ≡ is_some (get positions.eq-value.it a.numbers p) → there ≡ true
    → s.numbers ≡ a.numbers → IsPlaceTable (keys ++ p ∷ []) s
old_place keys p a s there has more test stands same =
    let at = a_key (get positions.eq-value.it a.numbers p) there test stands in
    record {
      counted = counted_one keys p a.count s.count has.counted more;
      found = λ k. ap (λ m. get positions.eq-value.it m k) same ∙ again_pushed same_position position_decides keys p at.0 (get positions.eq-value.it a.numbers) has.found at.1 k;
    }

-- ---- loops

-- what a loop takes for an element past the end
abbrev pub no_place : Position
no_place = record { line = 0; column = 0 }

abbrev pub no_binder : code.Binder
no_binder = binder.At no_place

pub taken_more : {X : Type 0} (P : List X → Type 0) (before xs : List X) (i : ℕ) (d : X) → i < length xs → P ((before ++ take i xs) ++ get_or xs i d ∷ []) → P (before ++ take (i + 1) xs)
taken_more P before xs i d within has =
    subst P (append_assoc before (take i xs) (get_or xs i d ∷ []) ∙ ap (λ ys. before ++ ys) (sym (ap (λ n. take n xs) (add-one i) ∙ take-suc xs i d within))) has
