-- A node that is entered keeps a search good.
use Rattle.std.proofs.Common.{◌≡◌, ◌≢◌, ℕ, ◌+◌, ◌<◌, ◌≤◌, ◌⊎◌, inl, inr, List, [], ◌∷◌, ◌++◌, length, set, slice_get, Some, ap, sym, ◌∙◌, subst, arith, length-append}
use Rattle.std.proofs.Math.ListN.{length-set}
use Rattle.cu_cycles.proofs.Lists.{get_suffix, get_prefix, get_last}
use Rattle.cu_cycles.proofs.Places.{prefix_or_suffix, prefix_or_last, no_length, not_empty, one_element, set_cases, set_elsewhere, set_there, within}
use Rattle.cu_cycles.proofs.Reaching.{itself}
use Rattle.cu_cycles.proofs.Weights.{weigh_opened}
use Rattle.cu_cycles.specs.Graph.{Edge, Graph, Reach}
use Rattle.cu_cycles.specs.Inside.Search as search_
use Rattle.cu_cycles.specs.Inside.Search.{Awaits, Followed, Good, Own, Source, one, weigh}
use Rattle.cu_cycles.specs.declared.components.Part.{Part}
use Rattle.cu_cycles.specs.declared.components.Place.{Place}
use Rattle.cu_cycles.specs.declared.components.Place.TheVariants.{Closed, New, Open}

abbrev pub part_at : ℕ → ℕ → Part
part_at start pending = record { start = start; pending = pending }

module _ (g : Graph) (places : List Place) (path pending : List ℕ) (parts : List Part) (count f : ℕ) (row : List ℕ)
    (good : Good g places path pending parts count) (is_new : slice_get places f ≡ Some New)
    (reached : (t u : ℕ) → slice_get path t ≡ Some u → Reach g u f) (is_row : slice_get g f ≡ Some row) where
  abbrev fresh : Part
  fresh = part_at (length path) (length pending)

  abbrev places_then : List Place
  places_then = set places f (Open (length path))

  abbrev path_then : List ℕ
  path_then = path ++ f ∷ []

  abbrev pending_then : List ℕ
  pending_then = pending ++ row

  abbrev parts_then : List Part
  parts_then = parts ++ fresh ∷ []

  longer : length path_then ≡ length path + 1
  longer = length-append path (f ∷ [])

  more : length pending ≤ length pending_then
  more = let e = length-append pending row in omega arith

  not_open : (s : ℕ) → slice_get path s ≡ Some f → ⊥
  not_open s e = let at = good.open_at s f e in cc

  open_at : (s v : ℕ) → slice_get path_then s ≡ Some v → slice_get places_then v ≡ Some (Open s)
  open_at s v e = by (prefix_or_last path f s v e)
    where
      by : (slice_get path s ≡ Some v) ⊎ ((s ≡ length path) × (f ≡ v)) → slice_get places_then v ≡ Some (Open s)
      by (inl old) =
          let other : v ≢ f = λ same. not_open s (old ∙ ap Some same) in
          set_elsewhere places f v (Open (length path)) other ∙ good.open_at s v old
      by (inr h) =
          let new : slice_get places_then f ≡ Some (Open (length path)) = set_there places f (Open (length path)) New is_new in
          let there : length path ≡ s = sym h.0 in
          let same : f ≡ v = h.1 in
          cc

  at_open : (v s : ℕ) → slice_get places_then v ≡ Some (Open s) → slice_get path_then s ≡ Some v
  at_open v s e = by (set_cases places f v (Open (length path)) (Open s) e)
    where
      by : ((v ≡ f) × (Open (length path) ≡ Open s)) ⊎ ((v ≢ f) × (slice_get places v ≡ Some (Open s))) → slice_get path_then s ≡ Some v
      by (inl h) =
          let last : slice_get path_then (length path) ≡ Some f = get_last path f in
          let same : v ≡ f = h.0 in
          let there : Open (length path) ≡ Open s = h.1 in
          let place : length path ≡ s = cc in
          cc
      by (inr h) = get_prefix path (f ∷ []) s v (good.at_open v s h.1)

  bottom : (p : Part) → slice_get parts_then 0 ≡ Some p → p.start ≡ 0
  bottom p e = by (prefix_or_last parts fresh 0 p e)
    where
      by : (slice_get parts 0 ≡ Some p) ⊎ ((0 ≡ length parts) × (fresh ≡ p)) → p.start ≡ 0
      by (inl old) = good.bottom p old
      by (inr h) =
          let none : path ≡ [] = good.none (no_length parts (sym h.0)) in
          let start : fresh.start ≡ p.start = ap (λ (q : Part). q.start) h.1 in
          sym start ∙ ap length none

  start : (i : ℕ) (p : Part) → slice_get parts_then i ≡ Some p → (p.start < length path_then) × (p.pending ≤ length pending_then)
  start i p e = by (prefix_or_last parts fresh i p e)
    where
      by : (slice_get parts i ≡ Some p) ⊎ ((i ≡ length parts) × (fresh ≡ p)) → (p.start < length path_then) × (p.pending ≤ length pending_then)
      by (inl old) = let h = good.start i p old in (omega (arith, longer), omega (arith, more))
      by (inr h) =
          let starts : length path ≡ p.start = ap (λ (q : Part). q.start) h.1 in
          let awaits : length pending ≡ p.pending = ap (λ (q : Part). q.pending) h.1 in
          (omega (arith, longer), omega (arith, more))

  rising : (i j : ℕ) (p q : Part) → slice_get parts_then i ≡ Some p → slice_get parts_then j ≡ Some q → i < j
      → (p.start < q.start) × (p.pending ≤ q.pending)
  rising i j p q e d less = by (prefix_or_last parts fresh i p e) (prefix_or_last parts fresh j q d)
    where
      by : (slice_get parts i ≡ Some p) ⊎ ((i ≡ length parts) × (fresh ≡ p)) → (slice_get parts j ≡ Some q) ⊎ ((j ≡ length parts) × (fresh ≡ q))
          → (p.start < q.start) × (p.pending ≤ q.pending)
      by (inl h) (inl k) = good.rising i j p q h k less
      by (inl h) (inr k) =
          let before = good.start i p h in
          let starts : length path ≡ q.start = ap (λ (x : Part). x.start) k.1 in
          let awaits : length pending ≡ q.pending = ap (λ (x : Part). x.pending) k.1 in
          (omega arith, omega arith)
      by (inr h) (inl k) = let low = within parts j q k in let high : i ≡ length parts = h.0 in absurd (omega arith)
      by (inr h) (inr k) = let one : i ≡ length parts = h.0 in let two : j ≡ length parts = k.0 in absurd (omega arith)

  later : (s t u v : ℕ) → s ≤ t → slice_get path_then s ≡ Some u → slice_get path_then t ≡ Some v → Reach g u v
  later s t u v less e d = by (prefix_or_last path f s u e) (prefix_or_last path f t v d)
    where
      by : (slice_get path s ≡ Some u) ⊎ ((s ≡ length path) × (f ≡ u)) → (slice_get path t ≡ Some v) ⊎ ((t ≡ length path) × (f ≡ v)) → Reach g u v
      by (inl h) (inl k) = good.later s t u v less h k
      by (inl h) (inr k) = subst (λ (x : ℕ). Reach g u x) k.1 (reached s u h)
      by (inr h) (inl k) = let low = within path t v k in let high : s ≡ length path = h.0 in absurd (omega arith)
      by (inr h) (inr k) = itself g u v (sym h.1 ∙ k.1)

  own_cases : (t i : ℕ) (p : Part) → Own parts_then t i p → (Own parts t i p × (t < length path)) ⊎ ((i ≡ length parts) × (fresh ≡ p))
  own_cases t i p own = by (prefix_or_last parts fresh i p own.is_part)
    where
      by : (slice_get parts i ≡ Some p) ⊎ ((i ≡ length parts) × (fresh ≡ p)) → (Own parts t i p × (t < length path)) ⊎ ((i ≡ length parts) × (fresh ≡ p))
      by (inl old) = inl (
        record { is_part = old; from = own.from; until = λ j q less e. own.until j q less (get_prefix parts (fresh ∷ []) j q e) },
        own.until (length parts) fresh (within parts i p old) (get_last parts fresh),
      )
      by (inr h) = inr h

  in_path : (t u : ℕ) → t < length path → slice_get path_then t ≡ Some u → slice_get path t ≡ Some u
  in_path t u less e = elim (prefix_or_last path f t u e) [ inl old ↦ old | inr h ↦ let at : t ≡ length path = h.0 in absurd (omega arith) ]

  is_last : (t u : ℕ) → length path ≤ t → slice_get path_then t ≡ Some u → f ≡ u
  is_last t u less e = elim (prefix_or_last path f t u e) [ inl old ↦ let low = within path t u old in absurd (omega arith) | inr h ↦ h.1 ]

  to_start : (i : ℕ) (p : Part) (t u v : ℕ) → Own parts_then t i p → slice_get path_then t ≡ Some u → slice_get path_then p.start ≡ Some v → Reach g u v
  to_start i p t u v own e d = by (own_cases t i p own)
    where
      by : (Own parts t i p × (t < length path)) ⊎ ((i ≡ length parts) × (fresh ≡ p)) → Reach g u v
      by (inl h) =
          let less : t < length path = h.1 in
          let from = own.from in
          good.to_start i p t u v h.0 (in_path t u less e) (in_path p.start v (omega arith) d)
      by (inr h) =
          let starts : length path ≡ p.start = ap (λ (x : Part). x.start) h.1 in
          let from = own.from in
          itself g u v (sym (is_last t u (omega arith) e) ∙ is_last p.start v (omega arith) d)

  not_it : (w c : ℕ) → slice_get places w ≡ Some (Closed c) → w ≢ f
  not_it w c e same = let new : slice_get places w ≡ Some New = subst (λ (x : ℕ). slice_get places x ≡ Some New) (sym same) is_new in cc

  stays_closed : (w c : ℕ) → slice_get places w ≡ Some (Closed c) → slice_get places_then w ≡ Some (Closed c)
  stays_closed w c e = set_elsewhere places f w (Open (length path)) (not_it w c e) ∙ e

  stays : (p : Part) (w : ℕ) → Followed places path pending p w → Followed places_then path_then pending_then p w
  stays p w (search_.closed c e) = search_.closed c (stays_closed w c e)
  stays p w (search_.opened s e less) = search_.opened s (get_prefix path (f ∷ []) s w e) less
  stays p w (search_.awaited j e less) = search_.awaited j (get_prefix pending row j w e) less

  follows : (i : ℕ) (p : Part) (t u w : ℕ) → Own parts_then t i p → slice_get path_then t ≡ Some u → Edge g u w
      → Followed places_then path_then pending_then p w
  follows i p t u w own e edge = by (own_cases t i p own)
    where
      by : (Own parts t i p × (t < length path)) ⊎ ((i ≡ length parts) × (fresh ≡ p)) → Followed places_then path_then pending_then p w
      by (inl h) = stays p w (good.follows i p t u w h.0 (in_path t u h.1 e) edge)
      by (inr h) =
          let starts : length path ≡ p.start = ap (λ (x : Part). x.start) h.1 in
          let awaits : length pending ≡ p.pending = ap (λ (x : Part). x.pending) h.1 in
          let from = own.from in
          let same : f ≡ u = is_last t u (omega arith) e in
          let its_row : slice_get g f ≡ Some edge.row = subst (λ (x : ℕ). slice_get g x ≡ Some edge.row) (sym same) edge.is_row in
          let one : edge.row ≡ row = one_element g f edge.row row its_row is_row in
          let target : slice_get row edge.place ≡ Some w =
          subst (λ (r : List ℕ). slice_get r edge.place ≡ Some w) one edge.is_there in
          search_.awaited (length pending + edge.place) (get_suffix pending row edge.place ∙ target) (omega arith)

  owned_then : (t i : ℕ) (p : Part) (u : ℕ) → Own parts t i p → slice_get path t ≡ Some u → Own parts_then t i p
  owned_then t i p u own e = record {
    is_part = get_prefix parts (fresh ∷ []) i p own.is_part;
    from = own.from;
    until = λ j q less d. by j q less (prefix_or_last parts fresh j q d);
  }
    where
      by : (j : ℕ) (q : Part) → i < j → (slice_get parts j ≡ Some q) ⊎ ((j ≡ length parts) × (fresh ≡ q)) → t < q.start
      by j q less (inl old) = own.until j q less old
      by j q less (inr h) =
          let low : t < length path = within path t u e in
          let starts : length path ≡ q.start = ap (λ (x : Part). x.start) h.1 in
          omega arith

  source : (i : ℕ) (p : Part) (t w : ℕ) → Awaits parts_then t i p → slice_get pending_then t ≡ Some w → Source g path_then parts_then i p w
  source i p t w awaits e = by (prefix_or_last parts fresh i p awaits.is_part) (prefix_or_suffix pending row t w e)
    where
      by : (slice_get parts i ≡ Some p) ⊎ ((i ≡ length parts) × (fresh ≡ p))
          → (slice_get pending t ≡ Some w) ⊎ ((j : ℕ) × (t ≡ length pending + j) × (slice_get row j ≡ Some w))
          → Source g path_then parts_then i p w
      by (inl old) (inl k) =
          let awaits_old : Awaits parts t i p = record {
            is_part = old;
            from = awaits.from;
            until = λ j q less d. awaits.until j q less (get_prefix parts (fresh ∷ []) j q d);
          } in
          let s = good.source i p t w awaits_old k in
          record {
            place = s.place;
            node = s.node;
            owned = owned_then s.place i p s.node s.owned s.is_open;
            is_open = get_prefix path (f ∷ []) s.place s.node s.is_open;
            edge = s.edge;
          }
      by (inl old) (inr k) =
          let low : t < length pending = awaits.until (length parts) fresh (within parts i p old) (get_last parts fresh) in
          let high : t ≡ length pending + k.0 = k.1 in
          absurd (omega arith)
      by (inr h) (inl k) =
          let low : t < length pending = within pending t w k in
          let high : length pending ≡ p.pending = ap (λ (x : Part). x.pending) h.1 in
          let from = awaits.from in
          absurd (omega arith)
      by (inr h) (inr k) =
          let starts : length path ≡ p.start = ap (λ (x : Part). x.start) h.1 in
          let last : i ≡ length parts = h.0 in
          record {
            place = length path;
            node = f;
            owned = record {
              is_part = awaits.is_part;
              from = omega arith;
              until = λ j q less d.
                  let low = within parts_then j q d in let size = length-append parts (fresh ∷ []) in absurd (omega arith);
            };
            is_open = get_last path f;
            edge = record { row = row; is_row = is_row; place = k.0; is_there = k.2 };
          }

  was_closed : (v c : ℕ) → slice_get places_then v ≡ Some (Closed c) → slice_get places v ≡ Some (Closed c)
  was_closed v c e = elim (set_cases places f v (Open (length path)) (Closed c) e) [
    | inl h ↦ let no : Open (length path) ≡ Closed c = h.1 in absurd (cc)
    | inr h ↦ h.1
  ]

  room : count + length path_then + weigh one g places_then ≤ length g
  room = let lighter = weigh_opened one g places f (length path) row is_new is_row in let old = good.room in omega (arith, longer)

  pub entered : Good g places_then path_then pending_then parts_then count
  entered = record {
    sized = length-set places f (Open (length path)) ∙ good.sized;
    open_at = open_at;
    at_open = at_open;
    none = λ e. absurd (not_empty parts fresh e);
    bottom = bottom;
    start = start;
    rising = rising;
    later = later;
    to_start = to_start;
    follows = follows;
    source = source;
    closed_below = λ v c e. good.closed_below v c (was_closed v c e);
    closed_used = λ c less. let found = good.closed_used c less in (found.0, stays_closed found.0 c found.1);
    closed_edges = λ v c w e edge.
        let found = good.closed_edges v c w (was_closed v c e) edge in (found.0, stays_closed w found.0 found.1, found.2);
    alike = λ u v c e d. good.alike u v c (was_closed u c e) (was_closed v c d);
    room = room;
  }
