-- Each step of a seat keeps the rule of the table.
use Rattle.std.proofs.Common.{◌≡◌, ◌≢◌, ℕ, zero, suc, ◌+◌, ◌-◌, ◌/◌, ◌%◌, ◌^◌, ◌<◌, ◌≤◌, Bool, true, false, cond, true≢false, List, [], ◌∷◌, ◌++◌, map, length, get_or, set, sym, refl, ap, ◌∙◌, subst, ⊎_elim, ◌⊎◌, inl, inr, arith, Option, Some, None, length-set, append_assoc}
use Rattle.std.proofs.lemmas.Bool.Decides.{nat_tests}
use Rattle.std.specs.Prelude.{nat_lt, slice_get, is_some}
use mathlib.Core.Option.{none, some, some-injective, some-ne-none}
use mathlib.Core.Option as maybe
use lib.ListN.{get_elem?, length-map}
use Rattle.atomic_table.specs.Table.{Me, step, Act, takes, gives, chain, stepped, Allows, Splits, Joins, opening}
use Rattle.atomic_table.proofs.Lists.{at_set, set_here, set_else, at_longer}
use Rattle.cu_pile.specs.declared.seat.SeatView.{SeatView}
use Rattle.cu_pile.specs.Seats.{times, once_below, number_past, EndsWith, total, EachSeat, seated, spent_seat}
use Rattle.cu_pile.specs.Drawn.{IsSeat, Drawn, IsClaimed}
use Rattle.cu_pile.specs.Inside.Steps.{EndsPast, with_number, slot_of, Draws, last_below, HoldsLast, IsDone}
use Rattle.cu_pile.proofs.Counts.{times-append, past-append, ends_times, total_set, total_snoc, part_le, part_unspent, each_set, each_snoc, only_seat, once_more, once_pos, once_one, word_bound}
use Rattle.std.proofs.Math.Nat.{mod-eq_of_lt}
use Rattle.std.proofs.Common.{lt-ltb, le-ltb}
use Rattle.atomic_table.specs.Table.{State, put_back, rest, Valid, carried_after, Final, Seen}

no_end : (prefix : List ℕ) (n : ℕ) → [] ≡ prefix ++ n ∷ [] → ⊥
no_end [] n e = cc
no_end (x ∷ xs) n e = cc

module _ {I : Type 0} where
  none_out : (items : List I) (i : ℕ) → get_elem? (map some (map (λ item. Some item) items)) i ≡ some none → ⊥
  none_out [] i e = some-ne-none none (sym e)
  none_out (x ∷ xs) zero e = some-ne-none (Some x) (some-injective (some (Some x)) none e)
  none_out (x ∷ xs) (suc i) e = none_out xs i e

  each_home : (items : List I) (i : ℕ) (x : I) → slice_get items i ≡ Some x → get_elem? (map some (map (λ item. Some item) items)) i ≡ some (some (Some x))
  each_home [] i x e = let no : ⊥ = cc in absurd no
  each_home (y ∷ ys) zero x e = ap (λ (z : Option I). some (some z)) e
  each_home (y ∷ ys) (suc i) x e = each_home ys i x e

  homes_length : (items : List I) → length (map some (map (λ item. Some item) items)) ≡ length items
  homes_length items = length-map (map (λ item. Some item) items) (λ (z : Option I). some z) ∙ length-map items (λ (item : I). Some item)

  one_seat : (P : SeatView I → Type 0) (w : SeatView I) → P w → EachSeat P (w ∷ [])
  one_seat P w p zero u e live = subst P (some-injective w u e) p
  one_seat P w p (suc j) u e live = absurd (some-ne-none u (sym e))

  -- a new table
  pub opens : (items : List I) (workers : ℕ) → 0 < workers → Drawn items (seated items [] workers ∷ []) 0 (map some (map (λ item. Some item) items)) workers
  opens items workers some_worker = record {
    seats = one_seat (IsSeat items) (seated items [] workers) record { items_kept = refl; stands_for = some_worker; past = omega arith };
    numbers = λ n. grind (arith, nat_tests);
    slot_each = homes_length items;
    full = λ i x _ e. each_home items i x e;
    out = λ i e. absurd (none_out items i e);
    all_workers = omega arith;
  }

  pub opens_with : (items kept : List I) (slots : List (Option I)) (workers : ℕ) → kept ≡ items → slots ≡ map (λ item. Some item) items → 0 < workers
      → IsClaimed kept workers (opening (0 ∷ []) slots (seated kept [] workers))
  opens_with items kept slots workers same filled some_worker =
      (refl, subst (λ (z : List I × List (Option I)). Drawn z.0 (seated z.0 [] workers ∷ []) 0 (map some z.1) workers) (λ i. (sym same i, sym filled i)) (opens items workers some_worker))

  -- a seat that drew nothing is split
  pub splits : (items : List I) (id workers all : ℕ) → 2 ≤ workers
      → Splits (IsClaimed items all) id (seated items [] workers) (seated items [] (workers - workers / 2)) (seated items [] (workers / 2))
  splits items id workers all many s rule at = let d = rule.1 in
      let v : SeatView I = seated items [] workers in let l : SeatView I = seated items [] (workers - workers / 2) in let r : SeatView I = seated items [] (workers / 2) in
      let half : workers / 2 < workers = omega arith in let half' : 0 < workers / 2 = omega arith in
      let one = total_set (λ u. u.workers) s.views id v l at in let two = total_snoc (λ u. u.workers) (set s.views id l) r in let sum = d.all_workers in (
        rule.0,
        record {
          seats = each_snoc (IsSeat items) (set s.views id l) r (λ _. record { items_kept = refl; stands_for = half'; past = omega arith })
              (each_set (IsSeat items) s.views id l (λ _. record { items_kept = refl; stands_for = omega arith; past = omega arith }) d.seats);
          numbers = λ n. let a = total_set (λ u. times n u.drawn) s.views id v l at in let b = total_snoc (λ u. times n u.drawn) (set s.views id l) r in let c = d.numbers n in omega arith;
          slot_each = d.slot_each;
          full = d.full;
          out = λ i e. let o = d.out i e in (
            o.0,
            o.1,
            at_longer (set s.views id l) (r ∷ []) o.0 o.1
                (set_else s.views id o.0 l (λ same. drew_none o.0 o.1 i same o.2 o.4) ∙ o.2),
            o.3,
            o.4,
          );
          all_workers = omega arith;
        },
      )
    where
      drew_none : (seat : ℕ) (u : SeatView I) (i : ℕ) → seat ≡ id → get_elem? s.views seat ≡ some u → EndsWith u.drawn i → ⊥
      drew_none seat u i same there ends =
          let is : seated items [] workers ≡ u = some-injective (seated items [] workers) u (sym at ∙ (ap (get_elem? s.views) (sym same) ∙ there)) in
          no_end ends.0 i (ap (λ (x : SeatView I). x.drawn) is ∙ ends.1)

  pub splits_with : (items : List I) (id workers all : ℕ) (v : SeatView I) → v ≡ seated items [] workers → 2 ≤ workers
      → Splits (IsClaimed items all) id v (seated v.items [] (v.workers - v.workers / 2)) (seated v.items [] (v.workers / 2))
  splits_with items id workers all v is many =
      subst (λ (u : SeatView I). Splits (IsClaimed items all) id u (seated u.items [] (u.workers - u.workers / 2)) (seated u.items [] (u.workers / 2))) (sym is) (splits items id workers all many)

snoc_nonempty : (xs : List ℕ) (n : ℕ) → (k : ℕ) × (rest : List ℕ) × (xs ++ n ∷ [] ≡ k ∷ rest)
snoc_nonempty [] n = (n, [], refl)
snoc_nonempty (x ∷ xs) n = (x, xs ++ n ∷ [], refl)

one_word : (words : List ℕ) (x : ℕ) → words ≡ get_or words 0 0 ∷ [] → set words 0 x ≡ x ∷ []
one_word words x e = ap (λ (l : List ℕ). set l 0 x) e

last_or : ℕ → List ℕ → ℕ
last_or d [] = d
last_or d (x ∷ xs) = last_or x xs

last_or-snoc : (d : ℕ) (xs : List ℕ) (n : ℕ) → last_or d (xs ++ n ∷ []) ≡ n
unfolding last_or
last_or-snoc d [] n = refl
last_or-snoc d (x ∷ xs) n = last_or-snoc x xs n

-- a list ends with one number
pub one_end : (xs : List ℕ) (m n : ℕ) → EndsWith xs m → EndsWith xs n → m ≡ n
one_end xs m n a b = sym (last_or-snoc 0 a.0 m) ∙ (ap (last_or 0) (sym a.1 ∙ b.1) ∙ last_or-snoc 0 b.0 n)

last_below-cons : (count k : ℕ) (xs : List ℕ) (n : ℕ) → last_below count (k ∷ (xs ++ n ∷ [])) ≡ last_below count (xs ++ n ∷ [])
last_below-cons count k [] n = refl
last_below-cons count k (x ∷ xs) n = refl

pub last_below-snoc : (count : ℕ) (xs : List ℕ) (n : ℕ) → last_below count (xs ++ n ∷ []) ≡ cond (nat_lt n count) (n ∷ []) []
last_below-snoc count [] n = refl
last_below-snoc count (x ∷ xs) n = last_below-cons count x xs n ∙ last_below-snoc count xs n

ends_below : (count : ℕ) (drawn : List ℕ) (n : ℕ) → EndsWith drawn n → n < count → last_below count drawn ≡ n ∷ []
ends_below count drawn n e low = ap (last_below count) e.1 ∙ (last_below-snoc count e.0 n ∙ ap (λ (b : Bool). cond b (n ∷ []) []) (lt-ltb n count low))

last_one : (b : Bool) (n m : ℕ) (r : List ℕ) → m ∷ r ≡ cond b (n ∷ []) [] → EndsWith (n ∷ []) m
last_one true n m r e = let same : m ≡ n = cc in ([], ap (λ (k : ℕ). k ∷ []) (sym same))
last_one false n m r e = let no : ⊥ = cc in absurd no

below_ends : (count : ℕ) (drawn : List ℕ) (m : ℕ) (r : List ℕ) → m ∷ r ≡ last_below count drawn → EndsWith drawn m
below_ends count [] m r e = let no : ⊥ = cc in absurd no
below_ends count (n ∷ []) m r e = last_one (nat_lt n count) n m r e
below_ends count (n ∷ k ∷ ks) m r e = let h = below_ends count (k ∷ ks) m r e in (n ∷ h.0, ap (λ (l : List ℕ). n ∷ l) h.1)

one_only : (b : Bool) (k m n : ℕ) (r : List ℕ) → m ∷ n ∷ r ≡ cond b (k ∷ []) [] → ⊥
one_only true k m n r e = cc
one_only false k m n r e = cc

two_none : (count : ℕ) (drawn : List ℕ) (m n : ℕ) (r : List ℕ) → m ∷ n ∷ r ≡ last_below count drawn → ⊥
two_none count [] m n r e = cc
two_none count (k ∷ []) m n r e = one_only (nat_lt k count) k m n r e
two_none count (k ∷ l ∷ ls) m n r e = two_none count (l ∷ ls) m n r e

put_back_rest : {I : Type 0} (count : ℕ) (drawn : List ℕ) (held : List (ℕ × Option I)) → HoldsLast count drawn held → rest held ≡ []
put_back_rest count drawn [] h = refl
put_back_rest count drawn (x ∷ []) h = refl
put_back_rest count drawn (x ∷ y ∷ ys) h = absurd (two_none count drawn x.0 y.0 (map (λ slot. slot.0) ys) h)

at_below : {A : Type 0} (l : List A) (i : ℕ) (a : A) → get_elem? l i ≡ some a → i < length l
at_below [] i a e = absurd (some-ne-none a (sym e))
at_below (x ∷ xs) zero a e = omega arith
at_below (x ∷ xs) (suc i) a e = let h = at_below xs i a e in omega arith

module _ {I : Type 0} where
  set_at : (views : List (SeatView I)) (k : ℕ) (v w : SeatView I) → get_elem? views k ≡ some v → get_elem? (set views k w) k ≡ some w
  set_at views k v w e = set_here views k w (at_below views k v e)

  -- what is out is out with another seat
  abbrev OutElse : List (SeatView I) → ℕ → List (maybe.Option (Option I)) → Type 0
  OutElse views id slots = (i : ℕ) → get_elem? slots i ≡ some none
      → (seat : ℕ) × (v : SeatView I) × (seat ≢ id) × (get_elem? views seat ≡ some v) × (v.spent ≡ false) × EndsWith v.drawn i

  module _ (items : List I) (views : List (SeatView I)) (word all id : ℕ) (slots : List (maybe.Option (Option I))) (v : SeatView I)
      (d : Drawn items views word slots all) (at : get_elem? views id ≡ some v) (live : v.spent ≡ false) where
    same_seat : (seat : ℕ) (u : SeatView I) → seat ≡ id → get_elem? views seat ≡ some u → v ≡ u
    same_seat seat u same there = some-injective v u (sym at ∙ (ap (get_elem? views) (sym same) ∙ there))

    drawn_below : (m : ℕ) → EndsWith v.drawn m → m < word
    drawn_below m e =
        let t = ends_times v.drawn m e in let p = part_le (λ u. times m u.drawn) views id v at in let q = part_unspent (λ u. times m u.drawn) v live in let n = d.numbers m in
        once_pos m word (omega arith)

    -- the slot that the seat gives back
    returned_out : (held : List (ℕ × Option I)) → HoldsLast (length items) v.drawn held → OutElse views id (put_back slots held)
    returned_out [] h i e = let o = d.out i e in let low = at_below slots i none e in let deep = d.slot_each in (
      o.0,
      o.1,
      (λ same. let is = same_seat o.0 o.1 same o.2 in let ends : EndsWith v.drawn i = subst (λ (u : SeatView I). EndsWith u.drawn i) (sym is) o.4 in
          let b = ends_below (length items) v.drawn i ends (omega arith) in let no : ⊥ = cc in no),
      o.2,
      o.3,
      o.4,
    )
    returned_out (x ∷ xs) h i e = ⊎_elim (λ (t : (i ≡ x.0) × (some x.1 ≡ none)). absurd (some-ne-none x.1 t.1))
        (λ (t : (i ≢ x.0) × (get_elem? slots i ≡ some none)). let o = d.out i t.1 in let low = at_below slots i none t.1 in let deep = d.slot_each in (
          o.0,
          o.1,
          (λ same. let is = same_seat o.0 o.1 same o.2 in let ends : EndsWith v.drawn i = subst (λ (u : SeatView I). EndsWith u.drawn i) (sym is) o.4 in
              let b = ends_below (length items) v.drawn i ends (omega arith) in let eq : i ≡ x.0 = cc in t.0 eq),
          o.2,
          o.3,
          o.4,
        ))
        (at_set slots x.0 i (some x.1) none e)

    returned_full : (held : List (ℕ × Option I)) → HoldsLast (length items) v.drawn held → (i : ℕ) (x : I) → word ≤ i → slice_get items i ≡ Some x → get_elem? (put_back slots held) i ≡ some (some (Some x))
    returned_full [] h i x le e = d.full i x le e
    returned_full (y ∷ ys) h i x le e = let low = drawn_below y.0 (below_ends (length items) v.drawn y.0 (map (λ slot. slot.0) ys) h) in
        set_else slots y.0 i (some y.1) (λ same. omega arith) ∙ d.full i x le e

    returned_length : (held : List (ℕ × Option I)) → length (put_back slots held) ≡ length items
    returned_length [] = d.slot_each
    returned_length (y ∷ ys) = length-set slots y.0 (some y.1) ∙ d.slot_each

    -- the seat draws the word, and the slots change
    draws_to : (after : List (maybe.Option (Option I))) → v.items ≡ items → number_past (length items) v.drawn ≡ 0 → length after ≡ length items
        → ((i : ℕ) (x : I) → word + 1 ≤ i → slice_get items i ≡ Some x → get_elem? after i ≡ some (some (Some x)))
        → ((i : ℕ) → get_elem? after i ≡ some none → (i ≡ word) ⊎ ((seat : ℕ) × (u : SeatView I) × (seat ≢ id) × (get_elem? views seat ≡ some u) × (u.spent ≡ false) × EndsWith u.drawn i))
        → Drawn items (set views id (with_number v word)) (word + 1) after all
    draws_to after known unpast deep full out =
        let w : SeatView I = with_number v word in let mine = d.seats id v at live in record {
          seats = each_set (IsSeat items) views id w (λ _. record { items_kept = known; stands_for = mine.stands_for; past = past_more }) d.seats;
          numbers = λ n. let t = total_set (λ u. times n u.drawn) views id v w at in let p = part_unspent (λ u. times n u.drawn) v live in let q = part_unspent (λ u. times n u.drawn) w live in
              let a = times-append n v.drawn (word ∷ []) in let b = d.numbers n in let o = once_more n word in omega arith;
          slot_each = deep;
          full = full;
          out = λ i e. ⊎_elim (λ (same : i ≡ word). let r : (seat : ℕ) × (u : SeatView I) × (get_elem? (set views id w) seat ≡ some u) × (u.spent ≡ false) × EndsWith u.drawn i =
              (id, w, set_at views id v w at, live, (v.drawn, ap (λ (k : ℕ). v.drawn ++ k ∷ []) (sym same))) in r)
              (λ o. (o.0, o.1, set_else views id o.0 w o.2 ∙ o.3, o.4, o.5)) (out i e);
          all_workers = let t = total_set (λ u. u.workers) views id v w at in let p = part_unspent (λ u. u.workers) v live in let q = part_unspent (λ u. u.workers) w live in let a = d.all_workers in omega arith;
        }
      where
        past_more : number_past (length items) (v.drawn ++ word ∷ []) ≤ v.workers
        past_more = let a = past-append (length items) v.drawn (word ∷ []) in let some_worker = (d.seats id v at live).stands_for in let one : number_past (length items) (word ∷ []) ≤ 1 = grind (arith, nat_tests) in omega arith

    pub bounded : word ≤ length items + all
    bounded = let b = word_bound (length items) word views d.numbers (λ j u e l. (d.seats j u e l).past) in let a = d.all_workers in omega arith

  slice_get_past : (items : List I) (i : ℕ) → slice_get items i ≡ None → length items ≤ i
  slice_get_past [] i e = omega arith
  slice_get_past (x ∷ xs) zero e = let no : ⊥ = cc in absurd no
  slice_get_past (x ∷ xs) (suc i) e = let h = slice_get_past xs i e in omega arith

  pub draws : (items : List I) (slots id all : ℕ) (me : Me (Option I) (SeatView I)) → length items ≤ 1048576 → all ≤ 64 → me.0.items ≡ items → me.0.spent ≡ false
      → HoldsLast (length items) me.0.drawn me.1 → number_past (length items) me.0.drawn ≡ 0 → Allows (IsClaimed items all) slots id me 0 (λ n. (n + 1) % 2 ^ 64) (Draws (step slots 0 1 0 none) me)
  draws items slots id all me few few_workers known live held unpast s rule deep at lim = draws_at (slice_get items (get_or s.words 0 0)) refl
    where
      d : Drawn items s.views (get_or s.words 0 0) s.homes all
      d = rule.1

      next : (get_or s.words 0 0 + 1) % 2 ^ 64 ≡ get_or s.words 0 0 + 1
      next = let b = bounded items s.views (get_or s.words 0 0) all id s.homes me.0 rule.1 at live in mod-eq_of_lt (omega arith)

      words_after : set s.words 0 ((get_or s.words 0 0 + 1) % 2 ^ 64) ≡ (get_or s.words 0 0 + 1) ∷ []
      words_after = one_word s.words ((get_or s.words 0 0 + 1) % 2 ^ 64) rule.0 ∙ ap (λ (n : ℕ). n ∷ []) next

      ruled : (views : List (SeatView I)) (homes : List (maybe.Option (Option I))) → Drawn items views (get_or s.words 0 0 + 1) homes all
          → IsClaimed items all (record { words = set s.words 0 ((get_or s.words 0 0 + 1) % 2 ^ 64); homes = homes; views = views })
      ruled views homes drawn =
          let P : List ℕ → Type 0 = λ ws. (ws ≡ get_or ws 0 0 ∷ []) × Drawn items views (get_or ws 0 0) homes all in
          subst P (sym words_after) (refl, drawn)

      rest_nil : rest me.1 ≡ []
      rest_nil = put_back_rest (length items) me.0.drawn me.1 held

      draws_at : (o : Option I) → slice_get items (get_or s.words 0 0) ≡ o
          → (w : SeatView I) × (a : Act (Option I)) × Valid s.homes me.1 a
          × IsClaimed items all (stepped s 0 ((get_or s.words 0 0 + 1) % 2 ^ 64) id me.1 w a)
          × Draws (step slots 0 1 0 none) me (get_or s.words 0 0) (w, carried_after me.1 a)
      draws_at (Some x) e = let word : ℕ = get_or s.words 0 0 in let returned = put_back s.homes me.1 in (
        with_number me.0 word,
        chain gives (takes word (Some x)),
        (tt, returned_full items s.views word all id s.homes me.0 rule.1 at live me.1 held word x (omega arith) e),
        ruled (set s.views id (with_number me.0 word)) (set returned word none) (draws_to items s.views word all id s.homes me.0 rule.1 at live (set returned word none) known unpast
            (length-set returned word none ∙ returned_length items s.views word all id s.homes me.0 rule.1 at live me.1)
            (λ i y le f. set_else returned word i none (λ same. omega arith) ∙ returned_full items s.views word all id s.homes me.0 rule.1 at live me.1 held i y (omega arith) f)
            (λ i f. ⊎_elim (λ (t : (i ≡ word) × (none ≡ none)). inl t.0) (λ (t : (i ≢ word) × (get_elem? returned i ≡ some none)). inr (returned_out items s.views word all id s.homes me.0 rule.1 at live me.1 held i t.1))
            (at_set returned word i none none f))),
        (refl, ap (λ r. (word, Some x) ∷ r) rest_nil ∙ sym (ap (slot_of word) (ap (λ (l : List I). slice_get l word) known ∙ e)), λ m f. drawn_below items s.views word all id s.homes me.0 rule.1 at live m f),
      )
      draws_at None e = let word : ℕ = get_or s.words 0 0 in let returned = put_back s.homes me.1 in let past = slice_get_past items word e in (
        with_number me.0 word,
        gives,
        tt,
        ruled (set s.views id (with_number me.0 word)) returned (draws_to items s.views word all id s.homes me.0 rule.1 at live returned known unpast
            (returned_length items s.views word all id s.homes me.0 rule.1 at live me.1)
            (λ i y le f. returned_full items s.views word all id s.homes me.0 rule.1 at live me.1 held i y (omega arith) f)
            (λ i f. inr (returned_out items s.views word all id s.homes me.0 rule.1 at live me.1 held i f))),
        (refl, rest_nil ∙ sym (ap (slot_of word) (ap (λ (l : List I). slice_get l word) known ∙ e)), λ m f. drawn_below items s.views word all id s.homes me.0 rule.1 at live m f),
      )

module _ {I : Type 0} where
  -- a seat that ran out takes in another one that did
  pub joins : (items : List I) (id other all : ℕ) (v w : SeatView I) → v.items ≡ items → v.spent ≡ false → w.spent ≡ false → EndsPast (length items) v.drawn → EndsPast (length items) w.drawn
      → Joins (IsClaimed items all) id v other w (seated v.items (v.drawn ++ w.drawn) (v.workers + w.workers)) spent_seat
  joins items id other all v w known live live' past past' s rule at apart there =
      let d = rule.1 in let b : SeatView I = seated v.items (v.drawn ++ w.drawn) (v.workers + w.workers) in let vs = set s.views id b in
      let sum : (f : SeatView I → ℕ) → f b ≡ f v + f w → total f (set vs other spent_seat) ≡ total f s.views =
      λ f both. let one = total_set f s.views id v b at in let two = total_set f vs other w spent_seat there in
      let p = part_unspent f v live in let q = part_unspent f w live' in omega arith in
      let mine = d.seats id v at live in let theirs = d.seats other w was live' in (
        rule.0,
        record {
          seats = each_set (IsSeat items) vs other spent_seat (λ e. absurd (true≢false e))
              (each_set (IsSeat items) s.views id b (λ _. record { items_kept = known; stands_for = some_workers mine.stands_for; past = let a = past-append (length items) v.drawn w.drawn in let x = mine.past in let y = theirs.past in omega arith }) d.seats);
          numbers = λ n. sum (λ u. times n u.drawn) (times-append n v.drawn w.drawn) ∙ d.numbers n;
          slot_each = d.slot_each;
          full = d.full;
          out = λ i e. let o = d.out i e in let low = at_below s.homes i none e in let deep = d.slot_each in (
            o.0,
            o.1,
            set_else vs other o.0 spent_seat (λ same. not_past w past' i (omega arith) (subst (λ (u : SeatView I). EndsWith u.drawn i) (some-injective o.1 w (sym o.2 ∙ (ap (get_elem? s.views) same ∙ was))) o.4))
                ∙ (set_else s.views id o.0 b (λ same. not_past v past i (omega arith) (subst (λ (u : SeatView I). EndsWith u.drawn i) (some-injective o.1 v (sym o.2 ∙ (ap (get_elem? s.views) same ∙ at))) o.4)) ∙ o.2),
            o.3,
            o.4,
          );
          all_workers = sum (λ u. u.workers) refl ∙ d.all_workers;
        },
      )
    where
      was : get_elem? s.views other ≡ some w
      was = ⊎_elim (λ (t : (other ≡ id) × (seated v.items (v.drawn ++ w.drawn) (v.workers + w.workers) ≡ w)). absurd (apart t.0))
          (λ (t : (other ≢ id) × (get_elem? s.views other ≡ some w)). t.1) (at_set s.views id other (seated v.items (v.drawn ++ w.drawn) (v.workers + w.workers)) w there)

      some_workers : 0 < v.workers → 0 < v.workers + w.workers
      some_workers h = omega arith

      not_past : (u : SeatView I) → EndsPast (length items) u.drawn → (i : ℕ) → i < length items → EndsWith u.drawn i → ⊥
      not_past u ends i low e = let same = one_end u.drawn ends.0 i ends.1 e in let far = ends.2 in omega arith

  -- the one seat that is left at the end drew each item's number once
  pub closes : (items : List I) (id all : ℕ) (v : SeatView I) (words : List ℕ) (slots : List (Option I)) → v.spent ≡ false → v.workers ≡ all → EndsPast (length items) v.drawn
      → Final (Seen (IsClaimed items all) id v) words slots → (n : ℕ) → n < length items → times n v.drawn ≡ 1
  closes items id all v words slots live whole past final n low =
      let s = final.0 in let rule = final.1.0.1 in let at = final.1.1 in let word : ℕ = get_or s.words 0 0 in
      let mine : (m : ℕ) → times m v.drawn ≡ once_below m word = λ m.
      sym (only_seat (λ u. times m u.drawn) s.views id v (λ j u e l. (rule.seats j u e l).stands_for) at live (rule.all_workers ∙ sym whole)) ∙ rule.numbers m in
      let far : past.0 < word = let t = ends_times v.drawn past.0 past.1 in let m = mine past.0 in once_pos past.0 word (omega arith) in
      let count = past.2 in mine n ∙ once_one n word (omega arith)

  slice_get_below : (items : List I) (i : ℕ) (x : I) → slice_get items i ≡ Some x → i < length items
  slice_get_below [] i x e = let no : ⊥ = cc in absurd no
  slice_get_below (y ∷ ys) zero x e = omega arith
  slice_get_below (y ∷ ys) (suc i) x e = let h = slice_get_below ys i x e in omega arith

  slot_held : (items : List I) (n : ℕ) (o : Option I) → slice_get items n ≡ o → map (λ slot. slot.0) (slot_of n o) ≡ cond (nat_lt n (length items)) (n ∷ []) []
  slot_held items n None e = sym (ap (λ (b : Bool). cond b (n ∷ []) []) (le-ltb n (length items) (slice_get_past items n e)))
  slot_held items n (Some x) e = sym (ap (λ (b : Bool). cond b (n ∷ []) []) (lt-ltb n (length items) (slice_get_below items n x e)))

  -- after a draw the seat holds the slot of the number
  pub holds_drawn : (v w : SeatView I) (held : List (ℕ × Option I)) (n : ℕ) → w ≡ with_number v n → held ≡ slot_of n (slice_get v.items n) → HoldsLast (length w.items) w.drawn held
  holds_drawn v w held n is slot =
      subst (λ (z : SeatView I × List (ℕ × Option I)). HoldsLast (length z.0.items) z.0.drawn z.1) (λ i. (sym is i, sym slot i))
      (slot_held v.items n (slice_get v.items n) refl ∙ sym (last_below-snoc (length v.items) v.drawn n))

  full_slot : (items : List I) (n : ℕ) (o : Option I) → slice_get items n ≡ o → n < length items → (x : I) × (o ≡ Some x)
  full_slot items n None e low = let far = slice_get_past items n e in absurd (omega arith)
  full_slot items n (Some x) e low = (x, refl)

  -- what the slot of a number has that was drawn last
  pub slot_there : (items : List I) (n : ℕ) (held : List (ℕ × Option I)) → n < length items → held ≡ slot_of n (slice_get items n) → (old : Option I) × (held ≡ (n, old) ∷ rest held)
  slot_there items n held low e =
      let f = full_slot items n (slice_get items n) refl low in let is : held ≡ (n, Some f.0) ∷ [] = e ∙ ap (slot_of n) f.1 in
      (Some f.0, is ∙ ap (λ (l : List (ℕ × Option I)). (n, Some f.0) ∷ l) (sym (ap rest is)))

  value_or : Option I → List (ℕ × Option I) → Option I
  value_or d [] = d
  value_or d (x ∷ xs) = x.1

  pub slot_gives : (items : List I) (n : ℕ) (held : List (ℕ × Option I)) (value : Option I) → n < length items → held ≡ slot_of n (slice_get items n) → held ≡ (n, value) ∷ rest held
      → value ≡ slice_get items n
  unfolding value_or
  slot_gives items n held value low e f =
      let full = full_slot items n (slice_get items n) refl low in let is : held ≡ (n, Some full.0) ∷ [] = e ∙ ap (slot_of n) full.1 in
      let same : value ≡ Some full.0 = ap (value_or None) (sym f ∙ is) in same ∙ sym full.1

  pub holds_taken : (count : ℕ) (drawn : List ℕ) (n : ℕ) (held : List (ℕ × Option I)) (value : Option I) → HoldsLast count drawn held → held ≡ (n, value) ∷ rest held
      → HoldsLast count drawn ((n, None) ∷ rest held)
  holds_taken count drawn n held value h e = sym (ap (map (λ (slot : ℕ × Option I). slot.0)) e) ∙ h

  pub gives_some : (items : List I) (n : ℕ) (held : List (ℕ × Option I)) (value : Option I) → n < length items → held ≡ slot_of n (slice_get items n) → held ≡ (n, value) ∷ rest held → is_some value ≡ true
  gives_some items n held value low e f =
      let full = full_slot items n (slice_get items n) refl low in ap is_some (slot_gives items n held value low e f ∙ full.1)

  pub taken_holds : (v : SeatView I) (held : List (ℕ × Option I)) (n : ℕ) (value : Option I) (after : Me (Option I) (SeatView I)) → HoldsLast (length v.items) v.drawn held → held ≡ (n, value) ∷ rest held
      → after ≡ (v, (n, None) ∷ rest held) → HoldsLast (length after.0.items) after.0.drawn after.1
  taken_holds v held n value after h e is =
      subst (λ (m : Me (Option I) (SeatView I)). HoldsLast (length m.0.items) m.0.drawn m.1) (sym is) (holds_taken (length v.items) v.drawn n held value h e)

  pub joins_with : (items : List I) (id other all : ℕ) (v w : Me (Option I) (SeatView I)) → IsDone items v → IsDone items w
      → Joins (IsClaimed items all) id v.0 other w.0 (seated v.0.items (v.0.drawn ++ w.0.drawn) (v.0.workers + w.0.workers)) spent_seat
  joins_with items id other all v w one two =
      joins items id other all v.0 w.0 (ap (λ m. m.0.items) one.0) (ap (λ m. m.0.spent) one.0) (ap (λ m. m.0.spent) two.0) one.1 two.1

  pub both_done : (items : List I) (v w : Me (Option I) (SeatView I)) (after : Me (Option I) (SeatView I)) → IsDone items v → IsDone items w
      → after ≡ (seated v.0.items (v.0.drawn ++ w.0.drawn) (v.0.workers + w.0.workers), v.1) → IsDone items after
  both_done items v w after one two is =
      let whole : List ℕ = v.0.drawn ++ w.0.drawn in let workers : ℕ = v.0.workers + w.0.workers in
      let same : after ≡ (seated items whole workers, []) = is ∙ λ i. (seated ((ap (λ m. m.0.items) one.0) i) whole workers, (ap (λ m. m.1) one.0) i) in
      let ends : EndsPast (length items) whole = (two.1.0, (v.0.drawn ++ two.1.1.0, ap (λ d. v.0.drawn ++ d) two.1.1.1 ∙ sym (append_assoc v.0.drawn two.1.1.0 (two.1.0 ∷ []))), two.1.2) in
      (same ∙ λ i. (seated items (sym (ap (λ m. m.0.drawn) same) i) (sym (ap (λ m. m.0.workers) same) i), []), subst (λ d. EndsPast (length items) d) (sym (ap (λ m. m.0.drawn) same)) ends)

  -- the claim word is at most the number of items and workers together
  pub word_is_bounded : (items : List I) (workers : ℕ) (state : State (Option I) (SeatView I)) → IsClaimed items workers state → get_or state.words 0 0 ≤ length items + workers
  word_is_bounded items workers state rule =
      let d = rule.1 in let b = word_bound (length items) (get_or state.words 0 0) state.views d.numbers (λ j u e l. (d.seats j u e l).past) in let a = d.all_workers in omega arith
