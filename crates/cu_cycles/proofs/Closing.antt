-- A part that is closed keeps a search good.
use Rattle.std.proofs.Common.{◌≡◌, ℕ, zero, suc, ◌+◌, ◌<◌, ◌≤◌, ◌⊎◌, inl, inr, true, false, cond, nat_le, List, [], ◌∷◌, ◌++◌, length, take, Option, None, Some, option_map, slice_get, refl, ap, ◌∙◌, subst, arith}
use Rattle.cu_cycles.proofs.Lists.{get_prefix, get_last}
use Rattle.cu_cycles.proofs.Joining.{awaits_below, below_top, own_below, own_top, top_there}
use Rattle.cu_cycles.proofs.Places.{before_or_not, take_keeps, take_less, within}
use Rattle.cu_cycles.proofs.Reaching.{onward}
use Rattle.cu_cycles.proofs.Weights.{weigh_shut}
use Rattle.cu_cycles.specs.Graph.{Edge, Graph, Reach}
use Rattle.cu_cycles.specs.Inside.Search as search_
use Rattle.cu_cycles.specs.Inside.Search.{AreShut, Awaits, Followed, Good, Own, Source, one, shut, weigh}
use Rattle.cu_cycles.specs.declared.components.Part.{Part}
use Rattle.cu_cycles.specs.declared.components.Place.{Place}
use Rattle.cu_cycles.specs.declared.components.Place.TheVariants.{Closed, New, Open}

-- ---- places that are shut

pub le_true : (a s : ℕ) → a ≤ s → nat_le a s ≡ true
le_true a s h = search (arith, h)

pub le_false : (a s : ℕ) → s < a → nat_le a s ≡ false
le_false a s h = search (arith, h)

shut_late : (start c s : ℕ) → start ≤ s → shut start c (Open s) ≡ Closed c
shut_late start c s h = ap (λ b. cond b (Closed c) (Open s)) (le_true start s h)

shut_early : (start c s : ℕ) → s < start → shut start c (Open s) ≡ Open s
shut_early start c s h = ap (λ b. cond b (Closed c) (Open s)) (le_false start s h)

module _ (start c : ℕ) (old new : List Place) (are : AreShut start c old new) where
  pub stays_open : (v s : ℕ) → slice_get old v ≡ Some (Open s) → s < start → slice_get new v ≡ Some (Open s)
  stays_open v s e less = are v ∙ ap (option_map (shut start c)) e ∙ ap Some (shut_early start c s less)

  pub is_shut : (v s : ℕ) → slice_get old v ≡ Some (Open s) → start ≤ s → slice_get new v ≡ Some (Closed c)
  is_shut v s e less = are v ∙ ap (option_map (shut start c)) e ∙ ap Some (shut_late start c s less)

  pub stays_closed : (v d : ℕ) → slice_get old v ≡ Some (Closed d) → slice_get new v ≡ Some (Closed d)
  stays_closed v d e = are v ∙ ap (option_map (shut start c)) e

  open_from : (v s t : ℕ) → slice_get old v ≡ Some (Open t) → slice_get new v ≡ Some (Open s) → (t < start) ⊎ (start ≤ t)
      → (slice_get old v ≡ Some (Open s)) × (s < start)
  open_from v s t e d (inl less) =
      let kept = stays_open v t e less in let same : t ≡ s = cc in (e ∙ ap (λ n. Some (Open n)) same, omega arith)
  open_from v s t e d (inr more) = let now = is_shut v t e more in let no : ⊥ = cc in absurd no

  was_open_by : (v s : ℕ) (found : Option Place) → slice_get old v ≡ found → slice_get new v ≡ Some (Open s)
      → (slice_get old v ≡ Some (Open s)) × (s < start)
  was_open_by v s None e d = let now = are v ∙ ap (option_map (shut start c)) e in let no : ⊥ = cc in absurd no
  was_open_by v s (Some New) e d = let now = are v ∙ ap (option_map (shut start c)) e in let no : ⊥ = cc in absurd no
  was_open_by v s (Some (Open t)) e d = open_from v s t e d (before_or_not t start)
  was_open_by v s (Some (Closed t)) e d = let now = are v ∙ ap (option_map (shut start c)) e in let no : ⊥ = cc in absurd no

  pub was_open : (v s : ℕ) → slice_get new v ≡ Some (Open s) → (slice_get old v ≡ Some (Open s)) × (s < start)
  was_open v s d = was_open_by v s (slice_get old v) refl d

  -- what is closed was closed before, or open from a place on
  pub data WasClosed (v d : ℕ) : Type 0 where
    before : slice_get old v ≡ Some (Closed d) → WasClosed v d
    now : (s : ℕ) → slice_get old v ≡ Some (Open s) → start ≤ s → d ≡ c → WasClosed v d

  closed_from : (v d t : ℕ) → slice_get old v ≡ Some (Open t) → slice_get new v ≡ Some (Closed d) → (t < start) ⊎ (start ≤ t) → WasClosed v d
  closed_from v d t e f (inl less) = let kept = stays_open v t e less in let no : ⊥ = cc in absurd no
  closed_from v d t e f (inr more) = let shut_now = is_shut v t e more in let same : d ≡ c = cc in now t e more same

  was_closed_by : (v d : ℕ) (found : Option Place) → slice_get old v ≡ found → slice_get new v ≡ Some (Closed d) → WasClosed v d
  was_closed_by v d None e f = let now_is = are v ∙ ap (option_map (shut start c)) e in let no : ⊥ = cc in absurd no
  was_closed_by v d (Some New) e f = let now_is = are v ∙ ap (option_map (shut start c)) e in let no : ⊥ = cc in absurd no
  was_closed_by v d (Some (Open t)) e f = closed_from v d t e f (before_or_not t start)
  was_closed_by v d (Some (Closed t)) e f =
      let now_is = are v ∙ ap (option_map (shut start c)) e in let same : t ≡ d = cc in before (e ∙ ap (λ n. Some (Closed n)) same)

  pub was_closed : (v d : ℕ) → slice_get new v ≡ Some (Closed d) → WasClosed v d
  was_closed v d f = was_closed_by v d (slice_get old v) refl f

  new_by : (v : ℕ) (found : Option Place) → slice_get old v ≡ found → slice_get new v ≡ Some New → slice_get old v ≡ Some New
  new_by v None e f = let now_is = are v ∙ ap (option_map (shut start c)) e in let no : ⊥ = cc in absurd no
  new_by v (Some New) e f = e
  new_by v (Some (Open t)) e f = elim (before_or_not t start) [
    | inl less ↦ let kept = stays_open v t e less in let no : ⊥ = cc in absurd no
    | inr more ↦ let shut_now = is_shut v t e more in let no : ⊥ = cc in absurd no
  ]
  new_by v (Some (Closed t)) e f = let now_is = are v ∙ ap (option_map (shut start c)) e in let no : ⊥ = cc in absurd no

  pub was_new : (v : ℕ) → slice_get new v ≡ Some New → slice_get old v ≡ Some New
  was_new v f = new_by v (slice_get old v) refl f

take_none : (xs : List ℕ) (n : ℕ) → n ≡ 0 → take n xs ≡ []
take_none [] zero e = refl
take_none (x ∷ xs) zero e = refl
take_none xs (suc n) e = absurd (omega arith)

take_size : (xs : List ℕ) (n : ℕ) → length (take n xs) ≤ n
take_size [] zero = omega arith
take_size [] (suc n) = omega arith
take_size (x ∷ xs) zero = omega arith
take_size (x ∷ xs) (suc n) = let rest : length (take n xs) ≤ n = take_size xs n in omega arith

-- ---- the search

module _ (g : Graph) (places new : List Place) (path pending : List ℕ) (rest : List Part) (top : Part) (count : ℕ)
    (good : Good g places path pending (rest ++ top ∷ []) count) (done : length pending ≤ top.pending)
    (are : AreShut top.start count places new) (sized : length new ≡ length places) where
  abbrev parts : List Part
  parts = rest ++ top ∷ []

  abbrev left : List ℕ
  left = take top.start path

  kept : (i : ℕ) (p : Part) → slice_get rest i ≡ Some p → slice_get parts i ≡ Some p
  kept i p e = get_prefix rest (top ∷ []) i p e

  at_open : (v s : ℕ) → slice_get new v ≡ Some (Open s) → slice_get left s ≡ Some v
  at_open v s e = let old = was_open top.start count places new are v s e in take_keeps path top.start s v old.1 (good.at_open v s old.0)

  open_at : (s v : ℕ) → slice_get left s ≡ Some v → slice_get new v ≡ Some (Open s)
  open_at s v e = let old = take_less path top.start s v e in stays_open top.start count places new are v s (good.open_at s v old.1) old.0

  none : rest ≡ [] → left ≡ []
  none e =
      let top_is : slice_get parts (length rest) ≡ Some top = get_last rest top in
      let first : slice_get parts 0 ≡ Some top = subst (λ (n : ℕ). slice_get parts n ≡ Some top) (ap length e) top_is in
      take_none path top.start (good.bottom top first)

  start : (i : ℕ) (p : Part) → slice_get rest i ≡ Some p → (p.start < length left) × (p.pending ≤ length pending)
  start i p e =
      let h = below_top g places path pending rest top count good i p e in
      let old = good.start i p (kept i p e) in
      let at = Rattle.cu_cycles.proofs.Places.there path p.start old.0 in
      (within left p.start at.0 (take_keeps path top.start p.start at.0 h.0 at.1), old.1)

  later : (s t u v : ℕ) → s ≤ t → slice_get left s ≡ Some u → slice_get left t ≡ Some v → Reach g u v
  later s t u v less e d = good.later s t u v less (take_less path top.start s u e).1 (take_less path top.start t v d).1

  to_start : (i : ℕ) (p : Part) (t u v : ℕ) → Own rest t i p → slice_get left t ≡ Some u → slice_get left p.start ≡ Some v → Reach g u v
  to_start i p t u v own e d =
      let at = take_less path top.start t u e in
      good.to_start i p t u v (own_below g places path pending rest top count good t i p own at.0) at.1 (take_less path top.start p.start v d).1

  passes : (p : Part) (w : ℕ) → Followed places path pending p w → Followed new left pending p w
  passes p w (search_.closed c e) = search_.closed c (stays_closed top.start count places new are w c e)
  passes p w (search_.opened s e high) = by (before_or_not s top.start)
    where
      by : (s < top.start) ⊎ (top.start ≤ s) → Followed new left pending p w
      by (inl less) = search_.opened s (take_keeps path top.start s w less e) high
      by (inr more) = search_.closed count (is_shut top.start count places new are w s (good.open_at s w e) more)
  passes p w (search_.awaited j e high) = search_.awaited j e high

  follows : (i : ℕ) (p : Part) (t u w : ℕ) → Own rest t i p → slice_get left t ≡ Some u → Edge g u w → Followed new left pending p w
  follows i p t u w own e edge =
      let at = take_less path top.start t u e in
      passes p w (good.follows i p t u w (own_below g places path pending rest top count good t i p own at.0) at.1 edge)

  source : (i : ℕ) (p : Part) (t w : ℕ) → Awaits rest t i p → slice_get pending t ≡ Some w → Source g left rest i p w
  source i p t w awaits e =
      let low = within pending t w e in
      let s = good.source i p t w (awaits_below g places path pending rest top count good t i p awaits (omega arith)) e in
      let under : s.place < top.start = s.owned.until (length rest) top (within rest i p awaits.is_part) (get_last rest top) in
      record {
        place = s.place;
        node = s.node;
        owned = record {
          is_part = awaits.is_part;
          from = s.owned.from;
          until = λ j q more f. s.owned.until j q more (kept j q f);
        };
        is_open = take_keeps path top.start s.place s.node under s.is_open;
        edge = s.edge;
      }

  closed_below : (v c : ℕ) → slice_get new v ≡ Some (Closed c) → c < count + 1
  closed_below v c e = by (was_closed top.start count places new are v c e)
    where
      by : WasClosed top.start count places new are v c → c < count + 1
      by (before old) = let less = good.closed_below v c old in omega arith
      by (now s old more same) = omega arith

  closed_used : (c : ℕ) → c < count + 1 → (v : ℕ) × (slice_get new v ≡ Some (Closed c))
  closed_used c less = by (before_or_not c count)
    where
      by : (c < count) ⊎ (count ≤ c) → (v : ℕ) × (slice_get new v ≡ Some (Closed c))
      by (inl low) = let found = good.closed_used c low in (found.0, stays_closed top.start count places new are found.0 c found.1)
      by (inr high) =
          let last : count ≡ c = omega arith in
          let first = top_there g places path pending rest top count good in
          (first.0, is_shut top.start count places new are first.0 top.start (good.open_at top.start first.0 first.1) (omega arith) ∙ ap (λ (n : ℕ). Some (Closed n)) last)

  edges_of_top : (w : ℕ) → Followed places path pending top w → (d : ℕ) × (slice_get new w ≡ Some (Closed d)) × (d ≤ count)
  edges_of_top w (search_.closed d e) =
      let less = good.closed_below w d e in (d, stays_closed top.start count places new are w d e, omega arith)
  edges_of_top w (search_.opened s e high) = (count, is_shut top.start count places new are w s (good.open_at s w e) high, omega arith)
  edges_of_top w (search_.awaited j e high) = let low = within pending j w e in absurd (omega arith)

  closed_edges : (v c w : ℕ) → slice_get new v ≡ Some (Closed c) → Edge g v w → (d : ℕ) × (slice_get new w ≡ Some (Closed d)) × (d ≤ c)
  closed_edges v c w e edge = by (was_closed top.start count places new are v c e)
    where
      by : WasClosed top.start count places new are v c → (d : ℕ) × (slice_get new w ≡ Some (Closed d)) × (d ≤ c)
      by (before old) =
          let found = good.closed_edges v c w old edge in (found.0, stays_closed top.start count places new are w found.0 found.1, found.2)
      by (now s old more same) =
          let at = good.at_open v s old in
          let found = edges_of_top w (good.follows (length rest) top s v w (own_top g places path pending rest top count good s more) at edge) in
          let less : found.0 ≤ count = found.2 in
          (found.0, found.1, omega arith)

  alike : (u v c : ℕ) → slice_get new u ≡ Some (Closed c) → slice_get new v ≡ Some (Closed c) → Reach g u v
  alike u v c e d = by (was_closed top.start count places new are u c e) (was_closed top.start count places new are v c d)
    where
      by : WasClosed top.start count places new are u c → WasClosed top.start count places new are v c → Reach g u v
      by (before old) (before other) = good.alike u v c old other
      by (before old) (now s other more same) = let less = good.closed_below u c old in absurd (omega arith)
      by (now s old more same) (before other) = let less = good.closed_below v c other in absurd (omega arith)
      by (now s old more same) (now t other high also) =
          let x = top_there g places path pending rest top count good in
          onward g u x.0 v
          (good.to_start (length rest) top s u x.0 (own_top g places path pending rest top count good s more) (good.at_open u s old) x.1)
          (good.later top.start t x.0 v high x.1 (good.at_open v t other))

  room : count + 1 + length left + weigh one g new ≤ length g
  room =
      let same = weigh_shut one g top.start count places new are in
      let size = take_size path top.start in
      let start = good.start (length rest) top (get_last rest top) in
      let low = start.0 in
      let old = good.room in
      omega arith

  pub closed : Good g new left pending rest (count + 1)
  closed = record {
    sized = sized ∙ good.sized;
    open_at = open_at;
    at_open = at_open;
    none = none;
    bottom = λ p e. good.bottom p (kept 0 p e);
    start = start;
    rising = λ i j p q e d more. good.rising i j p q (kept i p e) (kept j q d) more;
    later = later;
    to_start = to_start;
    follows = follows;
    source = source;
    closed_below = closed_below;
    closed_used = closed_used;
    closed_edges = closed_edges;
    alike = alike;
    room = room;
  }
