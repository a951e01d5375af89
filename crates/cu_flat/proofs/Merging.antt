-- The variables of a scope that are among either of two parts of it.
use Rattle.std.proofs.Common.{◌≡◌, ℕ, suc, ◌+◌, ◌<◌, ◌≤◌, Bool, true, false, cond, ◌||◌, List, [], ◌∷◌, ◌++◌, drop, filter, get_or, length, ltb, nat_eq, refl, ap, sym, ◌∙◌, append-nil, append_assoc, add-one, arith, drop-cons}
use Rattle.std.proofs.lemmas.Bool.{eq-eqb, eqb-true, le-ltb, lt-ltb, true≢false}
use Rattle.std.proofs.lemmas.List.{at_drop_all}
use Rattle.cu_flat.specs.Inside.Scope.{after}

-- a variable that doesn't pass isn't the first of those that do
after-other : (p : ℕ → Bool) (x : ℕ) (xs : List ℕ) → p x ≡ false → after x (filter p xs) ≡ filter p xs
after-other p x [] fails = refl
after-other p x (y ∷ xs) fails = by (p y) refl (after-other p x xs fails)
  where
    first : (b : Bool) → p y ≡ true → nat_eq y x ≡ b → cond b (filter p xs) (y ∷ filter p xs) ≡ y ∷ filter p xs
    first true passes same = absurd (true≢false (sym passes ∙ ap p (eqb-true y x same) ∙ fails))
    first false passes same = refl

    by : (b : Bool) → p y ≡ b → after x (filter p xs) ≡ filter p xs
        → after x (cond b (y ∷ filter p xs) (filter p xs)) ≡ cond b (y ∷ filter p xs) (filter p xs)
    by true is others = first (nat_eq y x) is refl
    by false is others = others

-- what is left after x of the variables that pass a test
pub after-filter : (p : ℕ → Bool) (x : ℕ) (xs : List ℕ) → after x (filter p (x ∷ xs)) ≡ filter p xs
after-filter p x xs = by (p x) refl
  where
    by : (b : Bool) → p x ≡ b → after x (cond b (x ∷ filter p xs) (filter p xs)) ≡ filter p xs
    by true is = rw (eq-eqb x x refl) refl
    by false is = after-other p x xs is

-- what is left after x is shorter exactly where x passes
pub after-shorter : (p : ℕ → Bool) (x : ℕ) (xs : List ℕ) → ltb (length (filter p xs)) (length (filter p (x ∷ xs))) ≡ p x
after-shorter p x xs = by (p x)
  where
    by : (b : Bool) → ltb (length (filter p xs)) (length (cond b (x ∷ filter p xs) (filter p xs))) ≡ b
    by true = lt-ltb (length (filter p xs)) (length (x ∷ filter p xs)) (omega arith)
    by false = le-ltb (length (filter p xs)) (length (filter p xs)) (omega arith)

-- What was found, and what is left of a scope and of two parts of it.
pub record Merging (p q : ℕ → Bool) (scope : List ℕ) (i : ℕ) (first second found : List ℕ) : Type 0 where
  pub first_left : first ≡ filter p (drop i scope)
  pub second_left : second ≡ filter q (drop i scope)
  pub all : found ++ filter (λ x. p x || q x) (drop i scope) ≡ filter (λ x. p x || q x) scope

wanted-first : (r : ℕ → Bool) (x : ℕ) (xs : List ℕ) → filter r (x ∷ xs) ≡ cond (r x) (x ∷ []) [] ++ filter r xs
wanted-first r x xs = by (r x)
  where
    by : (b : Bool) → cond b (x ∷ filter r xs) (filter r xs) ≡ cond b (x ∷ []) [] ++ filter r xs
    by true = refl
    by false = refl

pub Merging-more : (p q : ℕ → Bool) (scope : List ℕ) (i x d : ℕ) (first second found more first_after second_after : List ℕ) (in_first in_second : Bool)
    → i < length scope → x ≡ get_or scope i d → Merging p q scope i first second found
    → first_after ≡ after x first → second_after ≡ after x second
    → in_first ≡ ltb (length first_after) (length first) → in_second ≡ ltb (length second_after) (length second)
    → more ≡ found ++ cond (in_first || in_second) (x ∷ []) [] → Merging p q scope (i + 1) first_after second_after more
Merging-more p q scope i x d first second found more first_after second_after in_first in_second below is m fb sb w v is_more =
    let xs = drop (i + 1) scope in
    let either : ℕ → Bool = λ y. p y || q y in
    let now : drop i scope ≡ x ∷ xs = rw add-one (drop-cons scope i d below ∙ ap (λ y. y ∷ drop (suc i) scope) (sym is)) in
    let one : first ≡ filter p (x ∷ xs) = m.first_left ∙ ap (filter p) now in
    let two : second ≡ filter q (x ∷ xs) = m.second_left ∙ ap (filter q) now in
    let one_after : first_after ≡ filter p xs = fb ∙ ap (after x) one ∙ after-filter p x xs in
    let two_after : second_after ≡ filter q xs = sb ∙ ap (after x) two ∙ after-filter q x xs in
    let passes : (in_first || in_second) ≡ either x =
    or-both _ _ _ _ (w ∙ fewer _ _ _ _ one_after one ∙ after-shorter p x xs) (v ∙ fewer _ _ _ _ two_after two ∙ after-shorter q x xs) in
    record {
      first_left = one_after;
      second_left = two_after;
      all = ap (λ ys. ys ++ filter either xs) (is_more ∙ ap (λ b. found ++ cond b (x ∷ []) []) passes)
          ∙ append_assoc found (cond (either x) (x ∷ []) []) (filter either xs)
          ∙ ap (λ ys. found ++ ys) (sym (wanted-first either x xs)) ∙ sym (ap (λ ys. found ++ filter either ys) now) ∙ m.all;
    }
  where
    fewer : (a b c d : List ℕ) → a ≡ b → c ≡ d → ltb (length a) (length c) ≡ ltb (length b) (length d)
    fewer a b c d e f = rw (e, f) refl

    or-both : (a b c d : Bool) → a ≡ c → b ≡ d → (a || b) ≡ (c || d)
    or-both a b c d e f = rw (e, f) refl

pub Merging-all : (p q : ℕ → Bool) (scope : List ℕ) (i : ℕ) (first second found : List ℕ) → length scope ≤ i
    → Merging p q scope i first second found → found ≡ filter (λ x. p x || q x) scope
Merging-all p q scope i first second found past m =
    sym (append-nil found) ∙ ap (λ ys. found ++ ys) (sym (at_drop_all (filter (λ x. p x || q x)) scope i past)) ∙ m.all

pub Merging-start : (p q : ℕ → Bool) (scope first second : List ℕ) → first ≡ filter p scope → second ≡ filter q scope
    → Merging p q scope 0 first second []
Merging-start p q scope first second f s = record { first_left = f; second_left = s; all = refl }
