-- An edge that was followed is forgotten.
use Rattle.std.proofs.Common.{◌≡◌, ℕ, ◌<◌, ◌⊎◌, inl, inr, List, [], ◌∷◌, ◌++◌, length, slice_get, Some, subst, arith, length-append}
use Rattle.cu_cycles.proofs.Lists.{get_prefix}
use Rattle.cu_cycles.proofs.Places.{prefix_or_last}
use Rattle.cu_cycles.specs.Graph.{Graph}
use Rattle.cu_cycles.specs.Inside.Search as search_
use Rattle.cu_cycles.specs.Inside.Search.{Awaits, Followed, Good, Own, Source}
use Rattle.cu_cycles.specs.declared.components.Part.{Part}
use Rattle.cu_cycles.specs.declared.components.Place.{Place}

module _ (g : Graph) (places : List Place) (path rest : List ℕ) (target : ℕ) (parts : List Part) (count : ℕ)
    (good : Good g places path (rest ++ target ∷ []) parts count)
    (awaited : (i : ℕ) (p : Part) → slice_get parts i ≡ Some p → p.pending < length (rest ++ target ∷ []))
    (followed : (i : ℕ) (p : Part) → slice_get parts i ≡ Some p → Followed places path [] p target) where
  widen : (p : Part) (w : ℕ) → Followed places path [] p w → Followed places path rest p w
  widen p w (search_.closed c e) = search_.closed c e
  widen p w (search_.opened s e less) = search_.opened s e less
  widen p w (search_.awaited j e less) = let no : ⊥ = cc in absurd no

  passes : (i : ℕ) (p : Part) (w : ℕ) → slice_get parts i ≡ Some p → Followed places path (rest ++ target ∷ []) p w → Followed places path rest p w
  passes i p w is (search_.closed c e) = search_.closed c e
  passes i p w is (search_.opened s e less) = search_.opened s e less
  passes i p w is (search_.awaited j e less) = by (prefix_or_last rest target j w e)
    where
      by : (slice_get rest j ≡ Some w) ⊎ ((j ≡ length rest) × (target ≡ w)) → Followed places path rest p w
      by (inl old) = search_.awaited j old less
      by (inr h) = subst (λ (x : ℕ). Followed places path rest p x) h.1 (widen p target (followed i p is))

  pub forgotten : Good g places path rest parts count
  forgotten = record {
    sized = good.sized;
    open_at = good.open_at;
    at_open = good.at_open;
    none = good.none;
    bottom = good.bottom;
    start = λ i p e. (
      (good.start i p e).0,
      let less = awaited i p e in let size = length-append rest (target ∷ []) in omega arith,
    );
    rising = good.rising;
    later = good.later;
    to_start = good.to_start;
    follows = λ i p t u w own e edge. passes i p w own.is_part (good.follows i p t u w own e edge);
    source = λ i p t w awaits e. good.source i p t w awaits (get_prefix rest (target ∷ []) t w e);
    closed_below = good.closed_below;
    closed_used = good.closed_used;
    closed_edges = good.closed_edges;
    alike = good.alike;
    room = good.room;
  }
