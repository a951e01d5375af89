-- The steps of a search, in the terms of its code.
use Rattle.std.proofs.Common.{◌≡◌, ◌≢◌, ℕ, suc, ◌+◌, ◌-◌, ◌<◌, ◌≤◌, ◌⊎◌, inl, inr, List, [], ◌∷◌, ◌++◌, length, map, set, take, Option, None, Some, option_map, slice_get, refl, ap, sym, ◌∙◌, subst, arith, length-append, append_assoc}
use Rattle.std.proofs.Math.ListN.{length-set}
use Rattle.std.specs.declared.alloc.Global.{Global}
use Rattle.std.specs.declared.vec.Vec.{Vec}
use Rattle.cu_cycles.proofs.Lists.{get_prefix, get_last}
use Rattle.cu_cycles.proofs.Closing.{closed, le_false, le_true, stays_open}
use Rattle.cu_cycles.proofs.Entering.{entered, part_at}
use Rattle.cu_cycles.proofs.Joining.{joined, still_reaches}
use Rattle.cu_cycles.proofs.Places.{before_or_not, last_place, nothing_after, one_element, same_or_not, set_cases, set_elsewhere, set_there, split_last, take_prefix, there, within}
use Rattle.cu_cycles.proofs.Reaching.{by_edge, onward}
use Rattle.cu_cycles.proofs.Weights.{weigh_opened, weigh_shut}
use Rattle.cu_cycles.specs.Graph.{Graph, IsWhole, Reach}
use Rattle.cu_cycles.specs.Inside.Search as search_
use Rattle.cu_cycles.specs.Inside.Search.{AreShut, Awaits, Followed, Good, IsGood, IsLast, MayEnter, MayForget, MayJoin, OnlyParts, Own, Source, Closes, shut, two_more, weigh, work}
use Rattle.cu_cycles.specs.declared.components.Part.{Part}
use Rattle.cu_cycles.specs.declared.components.Place.{Place}
use Rattle.cu_cycles.specs.declared.components.Place.TheVariants.{Closed, New, Open}
use Rattle.cu_cycles.specs.declared.components.Search.{Search}

pub good_as : (g : Graph) (a x : List Place) (b y c z : List ℕ) (d w : List Part) (n : ℕ) → a ≡ x → b ≡ y → c ≡ z → d ≡ w
    → Good g a b c d n → Good g x y z w n
good_as g a x b y c z d w n p q r s good =
    subst (λ (k : List Part). Good g x y z k n) s (subst (λ (k : List ℕ). Good g x y k d n) r
    (subst (λ (k : List ℕ). Good g x k c d n) q (subst (λ (k : List Place). Good g k b c d n) p good)))

-- ---- entering

module _ (g : Graph) (places : List Place) (path pending : List ℕ) (parts : List Part) (count f : ℕ) (row : List ℕ)
    (n m k : ℕ) (path_then pending_then : List ℕ) (parts_then : List Part) (mentioned : List ℕ)
    (is_new : slice_get places f ≡ Some New) (is_row : slice_get g f ≡ Some row)
    (n_is : n ≡ length path) (m_is : m ≡ length pending) (k_is : k ≡ length path)
    (parts_are : parts_then ≡ parts ++ part_at n m ∷ []) (path_is : path_then ≡ path ++ f ∷ []) (row_is : mentioned ≡ row)
    (pending_is : pending_then ≡ pending ++ mentioned) where
  pub enters : Good g places path pending parts count → ((t u : ℕ) → slice_get path t ≡ Some u → Reach g u f)
      → Good g (set places f (Open k)) path_then pending_then parts_then count
  enters good reached =
      good_as g (set places f (Open (length path))) (set places f (Open k)) (path ++ f ∷ []) path_then (pending ++ row) pending_then
      (parts ++ part_at (length path) (length pending) ∷ []) parts_then count (ap (λ (x : ℕ). set places f (Open x)) (sym k_is)) (sym path_is)
      (sym (pending_is ∙ ap (λ (x : List ℕ). pending ++ x) row_is))
      (sym (parts_are ∙ ap (λ (x : ℕ). parts ++ part_at x m ∷ []) n_is ∙ ap (λ (x : ℕ). parts ++ part_at (length path) x ∷ []) m_is))
      (entered g places path pending parts count f row good is_new reached is_row)

  pub enters_falls : weigh two_more g (set places f (Open k)) + length pending_then + length parts_then + 1
      ≡ weigh two_more g places + length pending + length parts
  enters_falls =
      let lighter : length row + 2 + weigh two_more g (set places f (Open k)) ≡ weigh two_more g places = weigh_opened two_more g places f k row is_new is_row in
      let more : length pending_then ≡ length pending + length mentioned = ap length pending_is ∙ length-append pending mentioned in
      let same : length mentioned ≡ length row = ap length row_is in
      let one_more : length parts_then ≡ length parts + 1 = ap length parts_are ∙ length-append parts (part_at n m ∷ []) in
      omega arith

  pub enters_meets : (v : ℕ) → slice_get (set places f (Open k)) v ≡ Some New → slice_get places v ≡ Some New
  enters_meets v e = elim (set_cases places f v (Open k) New e) [ inl h ↦ let no : Open k ≡ New = h.1 in absurd (cc) | inr h ↦ h.1 ]

  pub enters_met : slice_get (set places f (Open k)) f ≡ Some New → ⊥
  enters_met e = let now = set_there places f (Open k) New is_new in cc

-- ---- joining

pub join_step : (g : Graph) (s : Search) (parts : Vec Part Global) (at n : ℕ) (p : Part) → IsLast s.parts.items p → at < p.start
    → n ≡ length s.parts.items → parts.items ≡ take (n - 1) s.parts.items → MayJoin g s at → MayJoin g (record s { parts = parts }) at
join_step g s parts at n p last less size rest may =
    let whole : s.parts.items ≡ parts.items ++ p ∷ [] = split_last s.parts.items parts.items n p last size rest in
    let good = subst (λ (x : List Part). Good g s.places.items s.path.items s.pending.items x s.closed) whole may.good in
    let reaches = λ (u : ℕ) (e : slice_get s.path.items p.start ≡ Some u). may.reaches p u last e in
    record {
      good = joined g s.places.items s.path.items s.pending.items parts.items p s.closed good at may.node may.is_open less reaches;
      node = may.node;
      is_open = may.is_open;
      reaches = λ q u is e.
          still_reaches g s.places.items s.path.items s.pending.items parts.items p s.closed good at may.node may.is_open less reaches
          (length parts.items - 1) q u is e;
    }

pub only_step : (old s : Search) (parts : Vec Part Global) (n : ℕ) (p : Part) → IsLast s.parts.items p
    → n ≡ length s.parts.items → parts.items ≡ take (n - 1) s.parts.items → OnlyParts old s → OnlyParts old (record s { parts = parts })
only_step old s parts n p last size rest only =
    let whole : s.parts.items ≡ parts.items ++ p ∷ [] = split_last s.parts.items parts.items n p last size rest in
    record {
      places = only.places;
      path = only.path;
      pending = only.pending;
      closed = only.closed;
      parts = (
        p ∷ only.parts.0,
        only.parts.1 ∙ ap (λ (x : List Part). x ++ only.parts.0) whole ∙ append_assoc parts.items (p ∷ []) only.parts.0,
      );
    }

-- ---- closing

shut_next : (s c t : ℕ) → t ≢ s → (t < s) ⊎ (s ≤ t) → shut (suc s) c (Open t) ≡ shut s c (Open t)
shut_next s c t other (inl less) =
    ap (λ b. Rattle.std.proofs.Common.cond b (Closed c) (Open t)) (le_false (suc s) t (omega arith) ∙ sym (le_false s t less))
shut_next s c t other (inr more) =
    ap (λ b. Rattle.std.proofs.Common.cond b (Closed c) (Open t)) (le_true (suc s) t (omega arith) ∙ sym (le_true s t more))

same_shut : (s c : ℕ) (found : Option Place) → ((t : ℕ) → found ≡ Some (Open t) → t ≢ s) → option_map (shut (suc s) c) found ≡ option_map (shut s c) found
same_shut s c None other = refl
same_shut s c (Some New) other = refl
same_shut s c (Some (Open t)) other = ap Some (shut_next s c t (other t refl) (before_or_not t s))
same_shut s c (Some (Closed d)) other = refl

none_shut : (start c : ℕ) (found : Option Place) → ((t : ℕ) → found ≡ Some (Open t) → t < start) → found ≡ option_map (shut start c) found
none_shut start c None low = refl
none_shut start c (Some New) low = refl
none_shut start c (Some (Open t)) low =
    ap Some (sym (ap (λ b. Rattle.std.proofs.Common.cond b (Closed c) (Open t)) (le_false start t (low t refl))))
none_shut start c (Some (Closed d)) low = refl

pub shut_first : (places : List Place) (path : List ℕ) (c : ℕ) → ((v s : ℕ) → slice_get places v ≡ Some (Open s) → slice_get path s ≡ Some v)
    → AreShut (length path) c places places
shut_first places path c at_open v =
    none_shut (length path) c (slice_get places v) (λ t e. within path t v (at_open v t e))

pub shut_step : (places now : List Place) (path rest : List ℕ) (c f : ℕ)
    → ((s v : ℕ) → slice_get (path ++ f ∷ rest) s ≡ Some v → slice_get places v ≡ Some (Open s))
    → ((v s : ℕ) → slice_get places v ≡ Some (Open s) → slice_get (path ++ f ∷ rest) s ≡ Some v)
    → AreShut (suc (length path)) c places now → AreShut (length path) c places (set now f (Closed c))
shut_step places now path rest c f open_at at_open are v = by (same_or_not v f)
  where
    at_f : slice_get (path ++ f ∷ rest) (length path) ≡ Some f
    at_f =
        subst (λ (x : List ℕ). slice_get x (length path) ≡ Some f) (append_assoc path (f ∷ []) rest)
        (get_prefix (path ++ f ∷ []) rest (length path) f (get_last path f))

    was : slice_get places f ≡ Some (Open (length path))
    was = open_at (length path) f at_f

    is_there : slice_get now f ≡ Some (Open (length path))
    is_there = stays_open (suc (length path)) c places now are f (length path) was (omega arith)

    shuts : shut (length path) c (Open (length path)) ≡ Closed c
    shuts = ap (λ b. Rattle.std.proofs.Common.cond b (Closed c) (Open (length path))) (le_true (length path) (length path) (omega arith))

    by : (v ≡ f) ⊎ (v ≢ f) → slice_get (set now f (Closed c)) v ≡ option_map (shut (length path) c) (slice_get places v)
    by (inl same) =
        subst (λ (x : ℕ). slice_get (set now f (Closed c)) x ≡ option_map (shut (length path) c) (slice_get places x)) (sym same)
        (set_there now f (Closed c) (Open (length path)) is_there ∙ sym (ap (option_map (shut (length path) c)) was ∙ ap Some shuts))
    by (inr other) =
        set_elsewhere now f v (Closed c) other ∙ are v
        ∙ same_shut (length path) c (slice_get places v)
        (λ t e s. other (one_element (path ++ f ∷ rest) (length path) v f
        (subst (λ (x : ℕ). slice_get (path ++ f ∷ rest) x ≡ Some v) s (at_open v t e)) at_f))

pub closes_first : (start : ℕ) (s : Search) → start ≤ length s.path.items
    → ((v t : ℕ) → slice_get s.places.items v ≡ Some (Open t) → slice_get s.path.items t ≡ Some v) → Closes start s s
closes_first start s low at_open = record {
  places = shut_first s.places.items s.path.items s.closed at_open;
  sized = refl;
  path = ([], nothing_after s.path.items);
  low = low;
  pending = refl;
  parts = refl;
  closed = refl;
}

module _ (start : ℕ) (old now : Search) (path : List ℕ) (f : ℕ)
    (open_at : (s v : ℕ) → slice_get old.path.items s ≡ Some v → slice_get old.places.items v ≡ Some (Open s))
    (at_open : (v s : ℕ) → slice_get old.places.items v ≡ Some (Open s) → slice_get old.path.items s ≡ Some v)
    (closes : Closes start old now) (popped : now.path.items ≡ path ++ f ∷ []) where
  whole : old.path.items ≡ path ++ f ∷ closes.path.0
  whole =
      closes.path.1 ∙ ap (λ (x : List ℕ). x ++ closes.path.0) popped ∙ append_assoc path (f ∷ []) closes.path.0

  at_f : slice_get old.path.items (length path) ≡ Some f
  at_f =
      subst (λ (x : List ℕ). slice_get x (length path) ≡ Some f)
      (sym (closes.path.1 ∙ ap (λ (x : List ℕ). x ++ closes.path.0) popped))
      (get_prefix (path ++ f ∷ []) closes.path.0 (length path) f (get_last path f))

  pub popped_within : f < length now.places.items
  popped_within =
      let low = within old.places.items f (Open (length path)) (open_at (length path) f at_f) in
      let same = closes.sized in
      omega arith

  size : length now.path.items ≡ suc (length path)
  size = let e : length now.path.items ≡ length path + 1 = ap length popped ∙ length-append path (f ∷ []) in omega arith

  pub closes_step : (paths : Vec ℕ Global) (places : Vec Place Global) → paths.items ≡ path → places.items ≡ set now.places.items f (Closed now.closed)
      → start < length now.path.items → Closes start old (record now { path = paths; places = places })
  closes_step paths places path_is places_are less =
      let before = subst (λ (n : ℕ). AreShut n old.closed old.places.items now.places.items) size closes.places in
      let after : AreShut (length path) old.closed old.places.items (set now.places.items f (Closed old.closed)) =
      shut_step old.places.items now.places.items path closes.path.0 old.closed f
      (λ s v e. open_at s v (subst (λ (x : List ℕ). slice_get x s ≡ Some v) (sym whole) e))
      (λ v s e. subst (λ (x : List ℕ). slice_get x s ≡ Some v) whole (at_open v s e)) before in
      let written : set now.places.items f (Closed old.closed) ≡ places.items =
      ap (λ (k : ℕ). set now.places.items f (Closed k)) (sym closes.closed) ∙ sym places_are in
      record {
        places = subst (λ (k : ℕ). AreShut k old.closed old.places.items places.items) (sym (ap length path_is))
            (subst (λ (x : List Place). AreShut (length path) old.closed old.places.items x) written after);
        sized = ap length places_are ∙ length-set now.places.items f (Closed now.closed) ∙ closes.sized;
        path = (f ∷ closes.path.0, whole ∙ ap (λ (x : List ℕ). x ++ f ∷ closes.path.0) (sym path_is));
        low = let same : length paths.items ≡ length path = ap length path_is in omega (arith, size);
        pending = closes.pending;
        parts = closes.parts;
        closed = closes.closed;
      }

pub closes_path : (start : ℕ) (old now : Search) → Closes start old now → length now.path.items ≤ start → now.path.items ≡ take start old.path.items
closes_path start old now closes high =
    let low = closes.low in
    let same : length now.path.items ≡ start = omega arith in
    sym (ap (λ (x : List ℕ). take start x) closes.path.1 ∙ ap (λ (k : ℕ). take k (now.path.items ++ closes.path.0)) (sym same)
    ∙ take_prefix now.path.items closes.path.0)

module _ (g : Graph) (places new : List Place) (path path_then pending pending_then : List ℕ) (parts popped parts_then : List Part)
    (count count_then n : ℕ) (top : Part) (last : IsLast parts top) (size : n ≡ length parts) (rest : popped ≡ take (n - 1) parts)
    (are : AreShut top.start count places new) (same : pending_then ≡ pending) (none : parts_then ≡ popped) where
  whole_parts : parts ≡ popped ++ top ∷ []
  whole_parts = split_last parts popped n top last size rest

  pub close_good : Good g places path pending parts count → length pending ≤ top.pending → length new ≡ length places
      → path_then ≡ take top.start path → count_then ≡ count → Good g new path_then pending_then parts_then (count_then + 1)
  close_good good done sized left as_many =
      let before = subst (λ (x : List Part). Good g places path pending x count) whole_parts good in
      subst (λ (k : ℕ). Good g new path_then pending_then parts_then (k + 1)) (sym as_many)
      (good_as g new new (take top.start path) path_then pending pending_then popped parts_then (count + 1) refl (sym left) (sym same) (sym none)
      (closed g places new path pending popped top count before done are sized))

  pub close_falls : weigh two_more g new + length pending_then + length parts_then + 1 ≡ weigh two_more g places + length pending + length parts
  close_falls =
      let weighs : weigh two_more g new ≡ weigh two_more g places = weigh_shut two_more g top.start count places new are in
      let as_long : length pending_then ≡ length pending = ap length same in
      let fewer : length parts_then ≡ length popped = ap length none in
      let one_more : length parts ≡ length popped + 1 = ap length whole_parts ∙ length-append popped (top ∷ []) in
      omega arith

-- ---- what an advance finds

-- all open nodes reach what the last part has pending
pub reach_pending : (g : Graph) (places : List Place) (path pending : List ℕ) (parts : List Part) (count : ℕ) (top : Part) (w : ℕ)
    → Good g places path pending parts count → IsLast parts top → top.pending < length pending → IsLast pending w
    → (t u : ℕ) → slice_get path t ≡ Some u → Reach g u w
reach_pending g places path pending parts count top w good last less is t u e = by (before_or_not t top.start)
  where
    some : 0 < length parts
    some = last_place parts top last

    after : (j : ℕ) (q : Part) → length parts - 1 < j → slice_get parts j ≡ Some q → ⊥
    after j q more f = let low = within parts j q f in omega (arith, some)

    owns : (s : ℕ) → top.start ≤ s → Own parts s (length parts - 1) top
    owns s h = record { is_part = last; from = h; until = λ j q more f. absurd (after j q more f) }

    awaits : Awaits parts (length pending - 1) (length parts - 1) top
    awaits = record { is_part = last; from = omega arith; until = λ j q more f. absurd (after j q more f) }

    source : Source g path parts (length parts - 1) top w
    source = good.source (length parts - 1) top (length pending - 1) w awaits is

    first : (x : ℕ) × (slice_get path top.start ≡ Some x)
    first = there path top.start (good.start (length parts - 1) top last).0

    from_first : Reach g first.0 w
    from_first =
        by_edge g first.0 source.node w
        (good.later top.start source.place first.0 source.node source.owned.from first.1 source.is_open) source.edge

    by : (t < top.start) ⊎ (top.start ≤ t) → Reach g u w
    by (inl low) = onward g u first.0 w (good.later t top.start u first.0 (omega arith) e first.1) from_first
    by (inr high) = onward g u first.0 w (good.to_start (length parts - 1) top t u first.0 (owns t high) e first.1) from_first

-- no part has more pending than the last one, or begins later
pub at_most_last : (g : Graph) (places : List Place) (path pending : List ℕ) (parts : List Part) (count : ℕ) (top : Part)
    → Good g places path pending parts count → IsLast parts top → (i : ℕ) (p : Part) → slice_get parts i ≡ Some p
    → (p.pending ≤ top.pending) × (p.start ≤ top.start)
at_most_last g places path pending parts count top good last i p e = by (before_or_not i (length parts - 1))
  where
    by : (i < length parts - 1) ⊎ (length parts - 1 ≤ i) → (p.pending ≤ top.pending) × (p.start ≤ top.start)
    by (inl low) = let h = good.rising i (length parts - 1) p top e last low in (omega arith, omega arith)
    by (inr high) =
        let less = within parts i p e in
        let at : i ≡ length parts - 1 = omega arith in
        let one : p ≡ top = one_element parts i p top e (subst (λ (x : ℕ). slice_get parts x ≡ Some top) (sym at) last) in
        let awaits : p.pending ≡ top.pending = ap (λ (x : Part). x.pending) one in
        let starts : p.start ≡ top.start = ap (λ (x : Part). x.start) one in
        (omega arith, omega arith)

pub pending_within : (g : Graph) (places : List Place) (path pending : List ℕ) (parts : List Part) (count : ℕ) (top : Part) (w : ℕ)
    → IsWhole g → Good g places path pending parts count → IsLast parts top → top.pending < length pending → IsLast pending w → w < length places
pending_within g places path pending parts count top w whole good last less is =
    let some : 0 < length parts = last_place parts top last in
    let awaits : Awaits parts (length pending - 1) (length parts - 1) top = record {
      is_part = last;
      from = omega arith;
      until = λ j q more f. let low = within parts j q f in absurd (omega (arith, some));
    } in
    let source = good.source (length parts - 1) top (length pending - 1) w awaits is in
    let low : w < length g = whole.within source.node w source.edge in
    let same = good.sized in
    omega arith

-- a closed node that is pending last may be forgotten
pub forget_closed : (g : Graph) (s : Search) (top : Part) (w c : ℕ) → IsGood g s → IsLast s.parts.items top → top.pending < length s.pending.items
    → IsLast s.pending.items w → slice_get s.places.items w ≡ Some (Closed c) → MayForget g s
forget_closed g s top w c good last less is e = record {
  good = good;
  target = w;
  is_last = is;
  awaited = λ i p f.
      let low = at_most_last g s.places.items s.path.items s.pending.items s.parts.items s.closed top good last i p f in omega arith;
  followed = λ i p f. search_.closed c e;
}

-- and an open one, once the last parts were joined down to its own
pub forget_open : (g : Graph) (s joined : Search) (top : Part) (w at : ℕ) → IsGood g s → IsLast s.parts.items top → top.pending < length s.pending.items
    → IsLast s.pending.items w → slice_get s.places.items w ≡ Some (Open at) → OnlyParts s joined
    → ((h : Graph) → MayJoin h s at → MayJoin h joined at) → ((p : Part) → IsLast joined.parts.items p → p.start ≤ at) → MayForget g joined
forget_open g s joined top w at good last less is e only may before =
    record {
      good = after.good;
      target = w;
      is_last = subst (λ (x : List ℕ). IsLast x w) (sym only.pending) is;
      awaited = λ i p f.
          let low =
          at_most_last g s.places.items s.path.items s.pending.items s.parts.items s.closed top good last i p
          (subst (λ (x : List Part). slice_get x i ≡ Some p) (sym only.parts.1) (get_prefix joined.parts.items only.parts.0 i p f)) in
          let same : length joined.pending.items ≡ length s.pending.items = ap length only.pending in
          omega arith;
      followed = λ i p f. search_.opened at (subst (λ (x : List ℕ). slice_get x at ≡ Some w) (sym only.path) is_open) (low i p f);
    }
  where
    is_open : slice_get s.path.items at ≡ Some w
    is_open = good.at_open w at e

    first : MayJoin g s at
    first = record {
      good = good;
      node = w;
      is_open = is_open;
      reaches = λ p u l f.
          reach_pending g s.places.items s.path.items s.pending.items s.parts.items s.closed top w good last less is p.start u f;
    }

    after : MayJoin g joined at
    after = may g first

    low : (i : ℕ) (p : Part) → slice_get joined.parts.items i ≡ Some p → p.start ≤ at
    low i p f =
        let some = within joined.parts.items i p f in
        let q = there joined.parts.items (length joined.parts.items - 1) (omega arith) in
        let under =
        at_most_last g joined.places.items joined.path.items joined.pending.items joined.parts.items joined.closed q.0 after.good q.1 i p f in
        let start = before q.0 q.1 in
        omega arith

pub fewer_parts : (old new : Search) → OnlyParts old new → length new.parts.items ≤ length old.parts.items
fewer_parts old new only =
    let e : length old.parts.items ≡ length new.parts.items + length only.parts.0 =
    ap length only.parts.1 ∙ length-append new.parts.items only.parts.0 in
    omega arith

pub same_work : (g : Graph) (old new : Search) → OnlyParts old new → work g new ≤ work g old
same_work g old new only =
    let weighs : weigh two_more g new.places.items ≡ weigh two_more g old.places.items = ap (weigh two_more g) only.places in
    let as_long : length new.pending.items ≡ length old.pending.items = ap length only.pending in
    let fewer = fewer_parts old new only in
    omega arith

pub close_room : (g : Graph) (places : List Place) (path pending : List ℕ) (parts : List Part) (count : ℕ) (top : Part)
    → Good g places path pending parts count → IsLast parts top → (top.start ≤ length path) × (count + 1 ≤ length g)
close_room g places path pending parts count top good last =
    let start = good.start (length parts - 1) top last in
    let low : top.start < length path = start.0 in
    let room = good.room in
    (omega arith, omega arith)
