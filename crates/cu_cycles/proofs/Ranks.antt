-- What a search that is over has found.
use Rattle.std.proofs.Common.{◌≡◌, ℕ, zero, suc, ◌<◌, ◌≤◌, List, [], ◌∷◌, length, map, replicate, Some, slice_get, refl, ap, sym, ◌∙◌, subst, arith}
use Rattle.std.proofs.lemmas.List.{length-map}
use Rattle.cu_cycles.proofs.Changes.{good_as}
use Rattle.cu_cycles.proofs.Places.{get_map, within}
use Rattle.cu_cycles.proofs.Weights.{weigh_all}
use Rattle.cu_cycles.specs.Components.{AreRanks}
use Rattle.cu_cycles.specs.Graph.{Edge, Graph}
use Rattle.cu_cycles.specs.Inside.Search.{Good, IsStart, MayEnter, Rests, number_of}
use Rattle.cu_cycles.specs.declared.components.Place.{Place}
use Rattle.cu_cycles.specs.declared.components.Place.TheVariants.{Closed, New, Open}
use Rattle.cu_cycles.specs.declared.components.Search.{Search}

all_new : (n v : ℕ) (p : Place) → slice_get (replicate n New) v ≡ Some p → p ≡ New
all_new zero v p e = let no : ⊥ = cc in absurd no
all_new (suc n) zero p e = cc
all_new (suc n) (suc v) p e = all_new n v p e

replicate_length : (n : ℕ) → length (replicate n New) ≡ n
replicate_length zero = refl
replicate_length (suc n) = ap suc (replicate_length n)

no_element : {A : Type 0} (k : ℕ) (x : A) → slice_get [] k ≡ Some x → ⊥
no_element k x e = cc

first_good : (g : Graph) → Good g (replicate (length g) New) [] [] [] 0
first_good g = record {
  sized = replicate_length (length g);
  open_at = λ s v e. absurd (no_element s v e);
  at_open = λ v s e. let no = all_new (length g) v (Open s) e in absurd (cc);
  none = λ e. refl;
  bottom = λ p e. absurd (no_element 0 p e);
  start = λ i p e. absurd (no_element i p e);
  rising = λ i j p q e d less. absurd (no_element i p e);
  later = λ s t u v less e d. absurd (no_element s u e);
  to_start = λ i p t u v own e d. absurd (no_element t u e);
  follows = λ i p t u w own e edge. absurd (no_element t u e);
  source = λ i p t w awaits e. absurd (no_element t w e);
  closed_below = λ v c e. let no = all_new (length g) v (Closed c) e in absurd (cc);
  closed_used = λ c less. absurd (omega arith);
  closed_edges = λ v c w e edge. let no = all_new (length g) v (Closed c) e in absurd (cc);
  alike = λ u v c e d. let no = all_new (length g) u (Closed c) e in absurd (cc);
  room = let all = weigh_all g in omega arith;
}

pub starts : (g : Graph) (s : Search) (n : ℕ) → n ≡ length g → IsStart n s → Rests g s
starts g s n size start = record {
  good =
      subst (λ (k : ℕ). Good g s.places.items s.path.items s.pending.items s.parts.items k) (sym start.closed)
      (good_as g (replicate (length g) New) s.places.items [] s.path.items [] s.pending.items [] s.parts.items 0
      (ap (λ (k : ℕ). replicate k New) (sym size) ∙ sym start.places) (sym start.path) (sym start.pending) (sym start.parts) (first_good g));
  empty = start.parts;
}

pub rest_enters : (g : Graph) (s : Search) (f : ℕ) → Rests g s → slice_get s.places.items f ≡ Some New → MayEnter g s f
rest_enters g s f rests is_new = record {
  good = rests.good;
  is_new = is_new;
  reached = λ t u e. absurd (no_element t u (subst (λ (x : List ℕ). slice_get x t ≡ Some u) (rests.good.none rests.empty) e));
}

module _ (g : Graph) (s : Search) (rests : Rests g s) (met : (v : ℕ) → v < length g → slice_get s.places.items v ≡ Some New → ⊥) where
  numbered : (places : List Place) (u r : ℕ) → slice_get (map number_of places) u ≡ Some r → (p : Place) × (slice_get places u ≡ Some p) × (number_of p ≡ r)
  numbered [] u r e = let no : ⊥ = cc in absurd no
  numbered (p ∷ places) zero r e = (p, refl, cc)
  numbered (p ∷ places) (suc u) r e = numbered places u r e

  closed_by : (u r : ℕ) (p : Place) → slice_get s.places.items u ≡ Some p → number_of p ≡ r → slice_get s.places.items u ≡ Some (Closed r)
  closed_by u r New e same =
      let low : u < length s.places.items = within s.places.items u New e in
      let size : length s.places.items ≡ length g = rests.good.sized in
      absurd (met u (omega arith) e)
  closed_by u r (Open t) e same =
      absurd (no_element t u (subst (λ (x : List ℕ). slice_get x t ≡ Some u) (rests.good.none rests.empty) (rests.good.at_open u t e)))
  closed_by u r (Closed c) e same = e ∙ ap (λ n. Some (Closed n)) same

  is_closed : (u r : ℕ) → slice_get (map number_of s.places.items) u ≡ Some r → slice_get s.places.items u ≡ Some (Closed r)
  is_closed u r e = let found = numbered s.places.items u r e in closed_by u r found.0 found.1 found.2

  falling : (u v r t : ℕ) → Edge g u v → slice_get (map number_of s.places.items) u ≡ Some r → slice_get (map number_of s.places.items) v ≡ Some t → t ≤ r
  falling u v r t edge e d =
      let found = rests.good.closed_edges u r v (is_closed u r e) edge in
      let other = is_closed v t d in
      let first : slice_get s.places.items v ≡ Some (Closed found.0) = found.1 in
      let same : found.0 ≡ t = cc in
      let less : found.0 ≤ r = found.2 in
      omega arith

  used : (r : ℕ) → r < s.closed → (u : ℕ) × (slice_get (map number_of s.places.items) u ≡ Some r)
  used r less =
      let found = rests.good.closed_used r less in (found.0, get_map number_of s.places.items found.0 (Closed r) found.1)

  ranks : AreRanks g (map number_of s.places.items) s.closed
  ranks = record {
    sized = length-map s.places.items number_of ∙ rests.good.sized;
    below = λ u r e. rests.good.closed_below u r (is_closed u r e);
    used = used;
    few = let room = rests.good.room in omega arith;
    falling = falling;
    alike = λ u v r e d. rests.good.alike u v r (is_closed u r e) (is_closed v r d);
  }

  pub are_ranks : (found : List ℕ) → found ≡ map number_of s.places.items → AreRanks g found s.closed
  are_ranks found same = subst (λ (x : List ℕ). AreRanks g x s.closed) (sym same) ranks
