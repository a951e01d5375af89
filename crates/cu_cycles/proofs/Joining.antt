-- Two parts that are joined keep a search good.
use Rattle.std.proofs.Common.{◌≡◌, ℕ, ◌<◌, ◌≤◌, ◌⊎◌, inl, inr, List, [], ◌∷◌, ◌++◌, length, slice_get, Some, ap, subst, arith, length-append}
use Rattle.cu_cycles.proofs.Lists.{get_prefix, get_last}
use Rattle.cu_cycles.proofs.Places.{before_or_not, prefix_or_last, there, within}
use Rattle.cu_cycles.proofs.Reaching.{onward}
use Rattle.cu_cycles.specs.Graph.{Edge, Graph, Reach}
use Rattle.cu_cycles.specs.Inside.Search as search_
use Rattle.cu_cycles.specs.Inside.Search.{Awaits, Followed, Good, IsLast, Own, Source}
use Rattle.cu_cycles.specs.declared.components.Part.{Part}
use Rattle.cu_cycles.specs.declared.components.Place.{Place}

module _ (g : Graph) (places : List Place) (path pending : List ℕ) (rest : List Part) (top : Part) (count : ℕ)
    (good : Good g places path pending (rest ++ top ∷ []) count) where
  abbrev parts : List Part
  parts = rest ++ top ∷ []

  top_is : slice_get parts (length rest) ≡ Some top
  top_is = get_last rest top

  kept : (i : ℕ) (p : Part) → slice_get rest i ≡ Some p → slice_get parts i ≡ Some p
  kept i p e = get_prefix rest (top ∷ []) i p e

  -- what stands below the last part
  pub below_top : (i : ℕ) (p : Part) → slice_get rest i ≡ Some p → (p.start < top.start) × (p.pending ≤ top.pending)
  below_top i p e = good.rising i (length rest) p top (kept i p e) top_is (within rest i p e)

  pub own_below : (t i : ℕ) (p : Part) → Own rest t i p → t < top.start → Own parts t i p
  own_below t i p own less = record {
    is_part = kept i p own.is_part;
    from = own.from;
    until = λ j q more e. by j q more (prefix_or_last rest top j q e);
  }
    where
      by : (j : ℕ) (q : Part) → i < j → (slice_get rest j ≡ Some q) ⊎ ((j ≡ length rest) × (top ≡ q)) → t < q.start
      by j q more (inl e) = own.until j q more e
      by j q more (inr h) = subst (λ (x : Part). t < x.start) h.1 less

  pub awaits_below : (t i : ℕ) (p : Part) → Awaits rest t i p → t < top.pending → Awaits parts t i p
  awaits_below t i p awaits less = record {
    is_part = kept i p awaits.is_part;
    from = awaits.from;
    until = λ j q more e. by j q more (prefix_or_last rest top j q e);
  }
    where
      by : (j : ℕ) (q : Part) → i < j → (slice_get rest j ≡ Some q) ⊎ ((j ≡ length rest) × (top ≡ q)) → t < q.pending
      by j q more (inl e) = awaits.until j q more e
      by j q more (inr h) = subst (λ (x : Part). t < x.pending) h.1 less

  none_after : (j : ℕ) (q : Part) → length rest < j → slice_get parts j ≡ Some q → ⊥
  none_after j q more e = let low = within parts j q e in let size = length-append rest (top ∷ []) in omega arith

  pub own_top : (t : ℕ) → top.start ≤ t → Own parts t (length rest) top
  own_top t less = record { is_part = top_is; from = less; until = λ j q more e. absurd (none_after j q more e) }

  pub awaits_top : (t : ℕ) → top.pending ≤ t → Awaits parts t (length rest) top
  awaits_top t less = record { is_part = top_is; from = less; until = λ j q more e. absurd (none_after j q more e) }

  -- a part below, where it owns a place after the last part's start, is the last one below
  last_below : (t i : ℕ) (p : Part) → Own rest t i p → top.start ≤ t → (j : ℕ) (q : Part) → i < j → slice_get rest j ≡ Some q → ⊥
  last_below t i p own high j q more e =
      let low = own.until j q more e in let less = below_top j q e in omega arith

  awaits_last : (t i : ℕ) (p : Part) → Awaits rest t i p → top.pending ≤ t → (j : ℕ) (q : Part) → i < j → slice_get rest j ≡ Some q → ⊥
  awaits_last t i p awaits high j q more e =
      let low = awaits.until j q more e in let less = below_top j q e in omega arith

  pub top_there : (x : ℕ) × (slice_get path top.start ≡ Some x)
  top_there = let start = good.start (length rest) top top_is in there path top.start start.0

  module _ (at v : ℕ) (is_open : slice_get path at ≡ Some v) (less : at < top.start)
      (reaches : (u : ℕ) → slice_get path top.start ≡ Some u → Reach g u v) where
    to_start : (i : ℕ) (p : Part) (t u w : ℕ) → Own rest t i p → slice_get path t ≡ Some u → slice_get path p.start ≡ Some w → Reach g u w
    to_start i p t u w own e d = by (before_or_not t top.start)
      where
        down : (at < p.start) ⊎ (p.start ≤ at) → top.start ≤ t → Reach g v w
        down (inl low) high = good.later at p.start v w (omega arith) is_open d
        down (inr low) high =
            let own_at : Own rest at i p = record {
              is_part = own.is_part;
              from = low;
              until = λ j q more f. absurd (last_below t i p own high j q more f);
            } in
            good.to_start i p at v w (own_below at i p own_at less) is_open d

        by : (t < top.start) ⊎ (top.start ≤ t) → Reach g u w
        by (inl low) = good.to_start i p t u w (own_below t i p own low) e d
        by (inr high) =
            let x = top_there in
            onward g u x.0 w (good.to_start (length rest) top t u x.0 (own_top t high) e x.1)
            (onward g x.0 v w (reaches x.0 x.1) (down (before_or_not at p.start) high))

    lower : (i : ℕ) (p : Part) (w : ℕ) → slice_get rest i ≡ Some p → Followed places path pending top w → Followed places path pending p w
    lower i p w e (search_.closed c f) = search_.closed c f
    lower i p w e (search_.opened s f high) = let h = below_top i p e in search_.opened s f (omega arith)
    lower i p w e (search_.awaited j f high) = let h = below_top i p e in search_.awaited j f (omega arith)

    follows : (i : ℕ) (p : Part) (t u w : ℕ) → Own rest t i p → slice_get path t ≡ Some u → Edge g u w → Followed places path pending p w
    follows i p t u w own e edge = by (before_or_not t top.start)
      where
        by : (t < top.start) ⊎ (top.start ≤ t) → Followed places path pending p w
        by (inl low) = good.follows i p t u w (own_below t i p own low) e edge
        by (inr high) = lower i p w own.is_part (good.follows (length rest) top t u w (own_top t high) e edge)

    source : (i : ℕ) (p : Part) (t w : ℕ) → Awaits rest t i p → slice_get pending t ≡ Some w → Source g path rest i p w
    source i p t w awaits e = by (before_or_not t top.pending)
      where
        by : (t < top.pending) ⊎ (top.pending ≤ t) → Source g path rest i p w
        by (inl low) =
            let s = good.source i p t w (awaits_below t i p awaits low) e in
            record {
              place = s.place;
              node = s.node;
              owned = record {
                is_part = awaits.is_part;
                from = s.owned.from;
                until = λ j q more f. s.owned.until j q more (kept j q f);
              };
              is_open = s.is_open;
              edge = s.edge;
            }
        by (inr high) =
            let s = good.source (length rest) top t w (awaits_top t high) e in
            let h = below_top i p awaits.is_part in
            let from = s.owned.from in
            record {
              place = s.place;
              node = s.node;
              owned = record {
                is_part = awaits.is_part;
                from = omega arith;
                until = λ j q more f. absurd (awaits_last t i p awaits high j q more f);
              };
              is_open = s.is_open;
              edge = s.edge;
            }

    none : rest ≡ [] → path ≡ []
    none e =
        let first : slice_get parts 0 ≡ Some top = subst (λ (n : ℕ). slice_get parts n ≡ Some top) (ap length e) top_is in
        let zero_start = good.bottom top first in
        absurd (omega arith)

    pub joined : Good g places path pending rest count
    joined = record {
      sized = good.sized;
      open_at = good.open_at;
      at_open = good.at_open;
      none = none;
      bottom = λ p e. good.bottom p (kept 0 p e);
      start = λ i p e. good.start i p (kept i p e);
      rising = λ i j p q e d more. good.rising i j p q (kept i p e) (kept j q d) more;
      later = good.later;
      to_start = to_start;
      follows = follows;
      source = source;
      closed_below = good.closed_below;
      closed_used = good.closed_used;
      closed_edges = good.closed_edges;
      alike = good.alike;
      room = good.room;
    }

    pub still_reaches : (i : ℕ) (p : Part) (u : ℕ) → slice_get rest i ≡ Some p → slice_get path p.start ≡ Some u → Reach g u v
    still_reaches i p u e d =
        let x = top_there in
        let h = below_top i p e in
        onward g u x.0 v (good.later p.start top.start u x.0 (omega arith) d x.1) (reaches x.0 x.1)
