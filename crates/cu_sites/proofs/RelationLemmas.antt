-- Relations between numbers, and walks along them.
use Rattle.std.proofs.Common.{◌≡◌, ◌∙◌, ◌<◌, ◌≤◌, ◌+◌, ◌⊎◌, inl, inr, ℕ, zero, suc, Bool, true, false, not, ◌&&◌, ◌||◌, List, [], ◌∷◌, ◌++◌, Option, Some, arith, length, slice_get, set, get_or, drop, map, refl, sym, ap, ap₂, subst, if◌then◌else◌}
use Rattle.std.proofs.Math.ListN.{length-set}
use Rattle.std.proofs.lemmas.Bool.{and_from, and_parts, eq-eqb, eqb-true, not_from_false, or_cases, or_left, or_right}
use Rattle.std.proofs.lemmas.List.{append-nil, append_assoc, drop_all, drop_more}
use Rattle.std.proofs.lemmas.List.Folds.{list_any-append}
use Rattle.std.proofs.lemmas.Option.{slice_get_within}
use Rattle.std.specs.Prelude.{nat_eq}
use Rattle.std.specs.List.{list_any}
use Rattle.indexmap.specs.IndexSet.{IndexSet, insert_key}
use Rattle.std.proofs.Common.{BuildHasherDefault, FoldHasher}
use Rattle.cu_sites.specs.Depending.{is_in, keys_in, relates, row}
use Rattle.cu_sites.specs.declared.relations.Relation.{Relation}
use Rattle.cu_sites.specs.declared.relations.Walk.{Walk}
use Rattle.cu_sites.specs.Inside.Relating.{Gains, Holds, IsBegun, IsReached, Meets, Pair, Reaches, begin, further, is_pair, pair}

-- ---- Booleans

pub same_truth : (a b : Bool) → (a ≡ true → b ≡ true) → (b ≡ true → a ≡ true) → a ≡ b
same_truth true true f g = refl
same_truth true false f g = sym (f refl)
same_truth false true f g = g refl
same_truth false false f g = refl

or_assoc : (a b c : Bool) → ((a || b) || c) ≡ (a || (b || c))
or_assoc true b c = refl
or_assoc false b c = refl

-- two steps of what is reached
or_unless : (a x y s : Bool) → ((a || (x && not s)) || (y && not s)) ≡ (a || ((x || y) && not s))
or_unless true x y s = refl
or_unless false true true true = refl
or_unless false true true false = refl
or_unless false true false true = refl
or_unless false true false false = refl
or_unless false false y s = refl

or_never : (a s : Bool) → (a || (false && not s)) ≡ a
or_never true s = refl
or_never false s = refl

-- ---- members

pub same_number : (i : ℕ) → nat_eq i i ≡ true
same_number i = eq-eqb i i refl

-- what was inserted is in the set
pub inserted : (ks : List ℕ) (x k : ℕ) → is_in (insert_key nat_eq ks x) k ≡ (is_in ks k || is_in (x ∷ []) k)
inserted ks x k = by (list_any (nat_eq x) ks) refl
  where
    again : list_any (nat_eq x) ks ≡ true → is_in (x ∷ []) k ≡ true → is_in ks k ≡ true
    again e at =
        let same : nat_eq k x ≡ true = one_of k x at in
        subst (λ (j : ℕ). is_in ks j ≡ true) (sym (eqb-true k x same)) e
      where
        one_of : (k x : ℕ) → is_in (x ∷ []) k ≡ true → nat_eq k x ≡ true
        one_of k x at = cases (or_cases (nat_eq k x) false at)
          where
            cases : (nat_eq k x ≡ true) ⊎ (false ≡ true) → nat_eq k x ≡ true
            cases (inl e) = e
            cases (inr e) = let no : ⊥ = cc in absurd no

    by : (b : Bool) → list_any (nat_eq x) ks ≡ b → (is_in (if b then ks else ks ++ x ∷ []) k) ≡ (is_in ks k || is_in (x ∷ []) k)
    by true e = same_truth (is_in ks k) (is_in ks k || is_in (x ∷ []) k) (or_left (is_in ks k) (is_in (x ∷ []) k)) (λ h. cases (or_cases (is_in ks k) (is_in (x ∷ []) k) h))
      where
        cases : (is_in ks k ≡ true) ⊎ (is_in (x ∷ []) k ≡ true) → is_in ks k ≡ true
        cases (inl h) = h
        cases (inr h) = again e h
    by false e = list_any-append (nat_eq k) ks (x ∷ [])

-- ---- loops over numbers

-- what is left of a list is its first element and the rest
pub left_of : (xs : List ℕ) (i : ℕ) → i < length xs → drop i xs ≡ get_or xs i 0 ∷ drop (i + 1) xs
left_of xs i low = drop_more xs i 0 low

pub set_goes_on : (ks xs : List ℕ) (i k : ℕ) (whole : Bool) → i < length xs → (is_in ks k || is_in (drop i xs) k) ≡ whole
    → (is_in (insert_key nat_eq ks (get_or xs i 0)) k || is_in (drop (i + 1) xs) k) ≡ whole
set_goes_on ks xs i k whole low e =
    let x = get_or xs i 0 in
    ap (λ b. b || is_in (drop (i + 1) xs) k) (inserted ks x k)
    ∙ or_assoc (is_in ks k) (is_in (x ∷ []) k) (is_in (drop (i + 1) xs) k)
    ∙ ap (λ b. is_in ks k || b) (sym (ap (λ ys. is_in ys k) (left_of xs i low) ∙ list_any-append (nat_eq k) (x ∷ []) (drop (i + 1) xs)))
    ∙ e

or_nothing : (b : Bool) → (b || false) ≡ b
or_nothing true = refl
or_nothing false = refl

pub set_ends : (ks xs : List ℕ) (i k : ℕ) (whole : Bool) → length xs ≤ i → (is_in ks k || is_in (drop i xs) k) ≡ whole → is_in ks k ≡ whole
set_ends ks xs i k whole past e =
    sym (ap (λ ys. is_in ks k || is_in ys k) (drop_all i xs past) ∙ or_nothing (is_in ks k)) ∙ e

-- ---- rows

abbrev pub Row : Type 0
Row = IndexSet ℕ (BuildHasherDefault FoldHasher)

abbrev pub AllEmpty : {S : Type 0} → List (IndexSet ℕ S) → Type 0
AllEmpty rows = (i k : ℕ) → is_in (keys_in (slice_get rows i)) k ≡ false

pub no_rows : {S : Type 0} (rows : List (IndexSet ℕ S)) → rows ≡ [] → AllEmpty rows
no_rows {S} rows e = subst (λ (xs : List (IndexSet ℕ S)). AllEmpty xs) (sym e) (λ i k. refl)

pub one_more_row : {S : Type 0} (rows : List (IndexSet ℕ S)) (new : IndexSet ℕ S) → new.keys ≡ [] → AllEmpty rows → AllEmpty (rows ++ new ∷ [])
one_more_row [] new e h zero k = ap (λ ks. is_in ks k) e
one_more_row [] new e h (suc i) k = refl
one_more_row (r ∷ rows) new e h zero k = h zero k
one_more_row (r ∷ rows) new e h (suc i) k = one_more_row rows new e (λ j m. h (suc j) m) i k

-- ---- relations

set_here : {A : Type 0} (xs : List A) (i : ℕ) (v : A) → i < length xs → slice_get (set xs i v) i ≡ Some v
set_here [] i v low = absurd (omega (arith, low))
set_here (y ∷ xs) zero v low = refl
set_here (y ∷ xs) (suc i) v low = set_here xs i v (omega (arith, low))

set_elsewhere : {A : Type 0} (xs : List A) (i k : ℕ) (v : A) → (k ≡ i → ⊥) → slice_get (set xs i v) k ≡ slice_get xs k
set_elsewhere [] i k v h = refl
set_elsewhere (y ∷ xs) zero zero v h = absurd (h refl)
set_elsewhere (y ∷ xs) zero (suc k) v h = refl
set_elsewhere (y ∷ xs) (suc i) zero v h = refl
set_elsewhere (y ∷ xs) (suc i) (suc k) v h = set_elsewhere xs i k v (λ e. h (ap suc e))

-- one more number in the row at a place
pub row_after : {S : Type 0} (rows : List (IndexSet ℕ S)) (from to : ℕ) (old new : IndexSet ℕ S) → from < length rows
    → slice_get rows from ≡ Some old → new.keys ≡ insert_key nat_eq old.keys to → (i k : ℕ)
    → is_in (keys_in (slice_get (set rows from new) i)) k ≡ (is_in (keys_in (slice_get rows i)) k || is_pair i k (pair from to))
row_after {S} rows from to old new low at keys i k = by (nat_eq i from) refl
  where
    Goal : ℕ → Type 0
    Goal j = is_in (keys_in (slice_get (set rows from new) j)) k ≡ (is_in (keys_in (slice_get rows j)) k || (nat_eq j from && nat_eq k to))

    here : Goal from
    here =
        ap (λ (r : Option (IndexSet ℕ S)). is_in (keys_in r) k) (set_here rows from new low)
        ∙ ap (λ ks. is_in ks k) keys ∙ inserted old.keys to k
        ∙ ap (λ b. is_in old.keys k || b) (or_nothing (nat_eq k to))
        ∙ sym (ap (λ (r : Option (IndexSet ℕ S)). is_in (keys_in r) k || (nat_eq from from && nat_eq k to)) at ∙ ap (λ b. is_in old.keys k || (b && nat_eq k to)) (same_number from))

    by : (b : Bool) → nat_eq i from ≡ b → Goal i
    by true e = subst Goal (sym (eqb-true i from e)) here
    by false e =
        ap (λ (r : Option (IndexSet ℕ S)). is_in (keys_in r) k) (set_elsewhere rows from i new (λ same. let no : ⊥ = not_same same in absurd no))
        ∙ sym (ap (λ b. is_in (keys_in (slice_get rows i)) k || (b && nat_eq k to)) e ∙ or_nothing (is_in (keys_in (slice_get rows i)) k))
      where
        not_same : i ≡ from → ⊥
        not_same same = let t : nat_eq i from ≡ true = eq-eqb i from same in let no : ⊥ = cc in no

more_pairs : (i k : ℕ) (pairs : List Pair) (p : Pair) → list_any (is_pair i k) (pairs ++ p ∷ []) ≡ (list_any (is_pair i k) pairs || is_pair i k p)
more_pairs i k pairs p = list_any-append (is_pair i k) pairs (p ∷ []) ∙ ap (λ b. list_any (is_pair i k) pairs || b) (or_nothing (is_pair i k p))

pub holds_none : (n : ℕ) (r : Relation) → length r.rows.items ≡ n → AllEmpty r.rows.items → Holds n [] r
holds_none n r size empty = record { sized = size; exact = λ i k low. empty i k }

pub holds_more : (n : ℕ) (pairs : List Pair) (from to : ℕ) (before after : Relation) (old new : Row) → Holds n pairs before
    → from < length before.rows.items → slice_get before.rows.items from ≡ Some old → new.keys ≡ insert_key nat_eq old.keys to
    → after.rows.items ≡ set before.rows.items from new → Holds n (pairs ++ pair from to ∷ []) after
holds_more n pairs from to before after old new h low at keys is = record {
  sized = ap length is ∙ length-set before.rows.items from new ∙ h.sized;
  exact = λ i k within.
      ap (λ (rows : List Row). is_in (keys_in (slice_get rows i)) k) is
      ∙ row_after before.rows.items from to old new low at keys i k
      ∙ ap (λ b. b || is_pair i k (pair from to)) (h.exact i k within)
      ∙ sym (more_pairs i k pairs (pair from to));
}

pub gains_none : (r : Relation) → Gains [] r r
gains_none r n pairs h = subst (λ ps. Holds n ps r) (sym (append-nil pairs)) h

pub gains_both : (ps qs : List Pair) (a b c : Relation) → Gains ps a b → Gains qs b c → Gains (ps ++ qs) a c
gains_both ps qs a b c one two n pairs h =
    subst (λ rs. Holds n rs c) (append_assoc pairs ps qs) (two n (pairs ++ ps) (one n pairs h))

pub gains_next : (f : ℕ → Pair) (xs : List ℕ) (i : ℕ) (a b c : Relation) → i < length xs → Gains (f (get_or xs i 0) ∷ []) a b
    → Gains (map f (drop (i + 1) xs)) b c → Gains (map f (drop i xs)) a c
gains_next f xs i a b c low one two =
    subst (λ ys. Gains (map f ys) a c) (sym (left_of xs i low)) (gains_both (f (get_or xs i 0) ∷ []) (map f (drop (i + 1) xs)) a b c one two)

pub gains_end : (f : ℕ → Pair) (xs : List ℕ) (i : ℕ) (a : Relation) → length xs ≤ i → Gains (map f (drop i xs)) a a
gains_end f xs i a past = subst (λ ys. Gains (map f ys) a a) (sym (drop_all i xs past)) (gains_none a)

-- ---- walks

pub meets_none : (w : Walk) → Meets [] w w
meets_none w = record {
  shut = refl;
  added = [];
  grows = sym (append-nil w.found.keys);
  exact = λ k. sym (or_never (is_in w.found.keys k) (is_in w.shut.keys k));
}

pub meets_both : (ks ls : List ℕ) (a b c : Walk) → Meets ks a b → Meets ls b c → Meets (ks ++ ls) a c
meets_both ks ls a b c one two = record {
  shut = two.shut ∙ one.shut;
  added = one.added ++ two.added;
  grows = two.grows ∙ ap (λ xs. xs ++ two.added) one.grows ∙ append_assoc a.found.keys one.added two.added;
  exact = λ k.
      two.exact k
      ∙ ap₂ (λ x s. x || (is_in ls k && not s)) (one.exact k) (ap (λ xs. is_in xs k) one.shut)
      ∙ or_unless (is_in a.found.keys k) (is_in ks k) (is_in ls k) (is_in a.shut.keys k)
      ∙ sym (ap (λ x. is_in a.found.keys k || (x && not (is_in a.shut.keys k))) (list_any-append (nat_eq k) ks ls));
}

-- a number that is shut isn't reached, and another is
pub meets_shut : (number : ℕ) (w : Walk) → list_any (nat_eq number) w.shut.keys ≡ true → Meets (number ∷ []) w w
meets_shut number w e = record {
  shut = refl;
  added = [];
  grows = sym (append-nil w.found.keys);
  exact = λ k. sym (by k (nat_eq k number) refl);
}
  where
    by : (k : ℕ) (b : Bool) → nat_eq k number ≡ b → (is_in w.found.keys k || (is_in (number ∷ []) k && not (is_in w.shut.keys k))) ≡ is_in w.found.keys k
    by k true same =
        let there : is_in w.shut.keys k ≡ true = subst (λ (j : ℕ). is_in w.shut.keys j ≡ true) (sym (eqb-true k number same)) e in
        ap₂ (λ x s. is_in w.found.keys k || ((x || false) && not s)) same there ∙ or_nothing (is_in w.found.keys k)
    by k false other = ap (λ x. is_in w.found.keys k || ((x || false) && not (is_in w.shut.keys k))) other ∙ or_nothing (is_in w.found.keys k)

pub grown : (ks : List ℕ) (x : ℕ) → (added : List ℕ) × (insert_key nat_eq ks x ≡ ks ++ added)
grown ks x = by (list_any (nat_eq x) ks)
  where
    by : (b : Bool) → (added : List ℕ) × ((if b then ks else ks ++ x ∷ []) ≡ ks ++ added)
    by true = ([], sym (append-nil ks))
    by false = (x ∷ [], refl)

pub meets_open : (number : ℕ) (a b : Walk) → list_any (nat_eq number) a.shut.keys ≡ false → b.shut.keys ≡ a.shut.keys
    → b.found.keys ≡ insert_key nat_eq a.found.keys number → Meets (number ∷ []) a b
meets_open number a b unshut shut keys = record {
  shut = shut;
  added = (grown a.found.keys number).0;
  grows = keys ∙ (grown a.found.keys number).1;
  exact = λ k. ap (λ ks. is_in ks k) keys ∙ inserted a.found.keys number k ∙ by k (nat_eq k number) refl;
}
  where
    by : (k : ℕ) (b : Bool) → nat_eq k number ≡ b
        → (is_in a.found.keys k || is_in (number ∷ []) k) ≡ (is_in a.found.keys k || (is_in (number ∷ []) k && not (is_in a.shut.keys k)))
    by k true same =
        let there : is_in a.shut.keys k ≡ false = subst (λ (j : ℕ). is_in a.shut.keys j ≡ false) (sym (eqb-true k number same)) unshut in
        ap (λ x. is_in a.found.keys k || (x || false)) same
        ∙ sym (ap₂ (λ x s. is_in a.found.keys k || ((x || false) && not s)) same there)
    by k false other =
        ap (λ x. is_in a.found.keys k || (x || false)) other
        ∙ sym (ap (λ x. is_in a.found.keys k || ((x || false) && not (is_in a.shut.keys k))) other)

pub meets_next : (xs : List ℕ) (i : ℕ) (a b c : Walk) → i < length xs → Meets (get_or xs i 0 ∷ []) a b → Meets (drop (i + 1) xs) b c
    → Meets (drop i xs) a c
meets_next xs i a b c low one two = subst (λ ys. Meets ys a c) (sym (left_of xs i low)) (meets_both (get_or xs i 0 ∷ []) (drop (i + 1) xs) a b c one two)

pub meets_end : (xs : List ℕ) (i : ℕ) (a : Walk) → length xs ≤ i → Meets (drop i xs) a a
meets_end xs i a past = subst (λ ys. Meets ys a a) (sym (drop_all i xs past)) (meets_none a)

-- ---- a walk from its seeds

-- Nothing is reached that isn't to be, the seeds are, and so is all that the first ones lead to.
pub record Walks (r : Relation) (seeds shut : List ℕ) (done : ℕ) (w : Walk) : Type 0 where
  pub shut_are : (k : ℕ) → is_in w.shut.keys k ≡ is_in shut k
  pub sound : (k : ℕ) → is_in w.found.keys k ≡ true → Reaches r seeds shut k
  pub begun : (k : ℕ) → is_in seeds k ≡ true → is_in shut k ≡ false → is_in w.found.keys k ≡ true
  pub gone : (i j k : ℕ) → i < done → slice_get w.found.keys i ≡ Some j → relates r j k ≡ true → is_in shut k ≡ false
      → is_in w.found.keys k ≡ true

at_place : (xs : List ℕ) (i j : ℕ) → slice_get xs i ≡ Some j → is_in xs j ≡ true
at_place [] i j e = let no : ⊥ = cc in absurd no
at_place (x ∷ xs) zero j e = or_left (nat_eq j x) (is_in xs j) (eq-eqb j x (let same : j ≡ x = cc in same))
at_place (x ∷ xs) (suc i) j e = or_right (nat_eq j x) (is_in xs j) (at_place xs i j e)

first_place : (x : ℕ) (xs : List ℕ) (j : ℕ) → (nat_eq j x ≡ true) ⊎ (is_in xs j ≡ true)
    → (is_in xs j ≡ true → (i : ℕ) × (slice_get xs i ≡ Some j)) → (i : ℕ) × (slice_get (x ∷ xs) i ≡ Some j)
first_place x xs j (inl h) go = (0, ap Some (sym (eqb-true j x h)))
first_place x xs j (inr h) go = let at = go h in (suc at.0, at.1)

pub place_in : (xs : List ℕ) (j : ℕ) → is_in xs j ≡ true → (i : ℕ) × (slice_get xs i ≡ Some j)
place_in [] j e = let no : ⊥ = cc in absurd no
place_in (x ∷ xs) j e = first_place x xs j (or_cases (nat_eq j x) (is_in xs j) e) (place_in xs j)

prefix_kept : (xs ys : List ℕ) (i : ℕ) → i < length xs → slice_get (xs ++ ys) i ≡ slice_get xs i
prefix_kept [] ys i low = absurd (omega (arith, low))
prefix_kept (x ∷ xs) ys zero low = refl
prefix_kept (x ∷ xs) ys (suc i) low = prefix_kept xs ys i (omega (arith, low))

is_false : (b : Bool) → not b ≡ true → b ≡ false
is_false true e = let no : ⊥ = cc in absurd no
is_false false e = refl

some_same : (n j : ℕ) (o : Option ℕ) → o ≡ Some n → o ≡ Some j → n ≡ j
some_same n j o e f = cc

pub before_or_not : (i done : ℕ) → i < done + 1 → (i < done) ⊎ (i ≡ done)
before_or_not i done low = by (nat_eq i done) refl
  where
    by : (b : Bool) → nat_eq i done ≡ b → (i < done) ⊎ (i ≡ done)
    by true e = inr (eqb-true i done e)
    by false e = inl (let other : i ≡ done → ⊥ = (λ same. let t : nat_eq i done ≡ true = eq-eqb i done same in let no : ⊥ = cc in no) in omega (arith, low, other))

pub walks_begin : (r : Relation) (seeds shut : List ℕ) (w : Walk) → IsBegun seeds shut w → Walks r seeds shut 0 w
walks_begin r seeds shut w b = record {
  shut_are = b.shut_are;
  sound = λ k e.
      let parts = and_parts (is_in seeds k) (not (is_in shut k)) (sym (b.found_are k) ∙ e) in
      begin k parts.0 (is_false (is_in shut k) parts.1);
  begun = λ k e f. b.found_are k ∙ and_from (is_in seeds k) (not (is_in shut k)) e (not_from_false (is_in shut k) f);
  gone = λ i j k low. absurd (omega (arith, low));
}

pub walks_on : (r : Relation) (seeds shut : List ℕ) (done j : ℕ) (w v : Walk) → Walks r seeds shut done w → slice_get w.found.keys done ≡ Some j
    → Meets (row r j) w v → Walks r seeds shut (done + 1) v
walks_on r seeds shut done j w v h at m = record {
  shut_are = λ k. ap (λ ks. is_in ks k) m.shut ∙ h.shut_are k;
  sound = λ k e. sound k (or_cases (is_in w.found.keys k) (is_in (row r j) k && not (is_in w.shut.keys k)) (sym (m.exact k) ∙ e));
  begun = λ k e f. kept k (h.begun k e f);
  gone = λ i n k low e f g. gone i n k f g (before i low) e;
}
  where
    kept : (k : ℕ) → is_in w.found.keys k ≡ true → is_in v.found.keys k ≡ true
    kept k e = m.exact k ∙ or_left (is_in w.found.keys k) (is_in (row r j) k && not (is_in w.shut.keys k)) e

    sound : (k : ℕ) → (is_in w.found.keys k ≡ true) ⊎ ((is_in (row r j) k && not (is_in w.shut.keys k)) ≡ true) → Reaches r seeds shut k
    sound k (inl e) = h.sound k e
    sound k (inr e) =
        let parts = and_parts (is_in (row r j) k) (not (is_in w.shut.keys k)) e in
        further j k (h.sound j (at_place w.found.keys done j at)) parts.0 (sym (h.shut_are k) ∙ is_false (is_in w.shut.keys k) parts.1)

    size : done < length w.found.keys
    size = slice_get_within w.found.keys done j at

    before : (i : ℕ) → i < done + 1 → (i < done) ⊎ (i ≡ done)
    before i low = before_or_not i done low

    same_there : (i n : ℕ) → i < length w.found.keys → slice_get v.found.keys i ≡ Some n → slice_get w.found.keys i ≡ Some n
    same_there i n low e = sym (ap (λ xs. slice_get xs i) m.grows ∙ prefix_kept w.found.keys m.added i low) ∙ e

    gone : (i n k : ℕ) → relates r n k ≡ true → is_in shut k ≡ false → (i < done) ⊎ (i ≡ done) → slice_get v.found.keys i ≡ Some n → is_in v.found.keys k ≡ true
    gone i n k f g (inl low) e = kept k (h.gone i n k low (same_there i n (omega (arith, low, size)) e) f g)
    gone i n k f g (inr here) e =
        let there : slice_get w.found.keys done ≡ Some n = same_there done n size (subst (λ (x : ℕ). slice_get v.found.keys x ≡ Some n) here e) in
        let one : n ≡ j = some_same n j (slice_get w.found.keys done) there at in
        m.exact k
        ∙ or_right (is_in w.found.keys k) (is_in (row r j) k && not (is_in w.shut.keys k))
        (and_from (is_in (row r j) k) (not (is_in w.shut.keys k)) (subst (λ (x : ℕ). relates r x k ≡ true) one f)
        (not_from_false (is_in w.shut.keys k) (h.shut_are k ∙ g)))

pub walks_end : (r : Relation) (seeds shut : List ℕ) (done : ℕ) (w : Walk) → Walks r seeds shut done w → length w.found.keys ≤ done → IsReached r seeds shut w
walks_end r seeds shut done w h past k = (h.sound k, all k)
  where
    all : (k : ℕ) → Reaches r seeds shut k → is_in w.found.keys k ≡ true
    all _ (begin k e f) = h.begun k e f
    all _ (further j k from e f) =
        let at = place_in w.found.keys j (all j from) in
        let low = slice_get_within w.found.keys at.0 j at.1 in
        h.gone at.0 j k (omega (arith, low, past)) at.1 e f

pub begun_with : (seeds shut : List ℕ) (a b : Walk) → a.found.keys ≡ [] → ((k : ℕ) → is_in a.shut.keys k ≡ is_in shut k) → Meets seeds a b
    → IsBegun seeds shut b
begun_with seeds shut a b empty same m = record {
  shut_are = λ k. ap (λ ks. is_in ks k) m.shut ∙ same k;
  found_are = λ k. m.exact k ∙ ap₂ (λ ks s. is_in ks k || (is_in seeds k && not s)) empty (same k);
}
