-- A node lies on a cycle where an edge goes from it to a node of its component.
use Rattle.std.proofs.Common.{◌≡◌, ◌↔◌, ℕ, ◌+◌, ◌<◌, ◌≤◌, inl, inr, Bool, IsTrue, List, [], ◌∷◌, ◌++◌, Some, length, length-append, slice_get, ap, sym, ◌∙◌, subst, arith}
use Rattle.cu_cycles.proofs.Places.{prefix_or_last, one_element, there}
use Rattle.cu_cycles.specs.Components.{AreRanks}
use Rattle.cu_cycles.specs.Graph as graph
use Rattle.cu_cycles.specs.Graph.{Edge, Graph, IsWhole, LiesOnCycle, Reach}

module _ (g : Graph) (ranks : List ℕ) (count : ℕ) (whole : IsWhole g) (are : AreRanks g ranks count) where
  -- each node has a number
  ranked : (u : ℕ) → u < length g → (r : ℕ) × (slice_get ranks u ≡ Some r)
  ranked u low = let size : length ranks ≡ length g = are.sized in there ranks u (omega arith)

  -- along a walk numbers don't rise
  falls : (u v r s : ℕ) → Reach g u v → slice_get ranks u ≡ Some r → slice_get ranks v ≡ Some s → s ≤ r
  falls _ _ r s (graph.here u) e d = let same : r ≡ s = one_element ranks u r s e d in omega arith
  falls _ _ r s (graph.there u w v edge rest) e d =
      let next = ranked w (whole.within u w edge) in
      let first : next.0 ≤ r = are.falling u w r next.0 edge e next.1 in
      let other : s ≤ next.0 = falls w v next.0 s rest next.1 d in
      omega arith

  pub cycle_from : (u r : ℕ) (row : List ℕ) → slice_get g u ≡ Some row → slice_get ranks u ≡ Some r
      → ((k : ℕ) × (v : ℕ) × (slice_get row k ≡ Some v) × (slice_get ranks v ≡ Some r)) → LiesOnCycle g u
  cycle_from u r row at e found = record {
    next = found.1;
    edge = record { row = row; is_row = at; place = found.0; is_there = found.2 };
    closes = are.alike found.1 u r found.3 e;
  }

  pub cycle_to : (u r : ℕ) (row : List ℕ) → slice_get g u ≡ Some row → slice_get ranks u ≡ Some r
      → LiesOnCycle g u → (k : ℕ) × (v : ℕ) × (slice_get row k ≡ Some v) × (slice_get ranks v ≡ Some r)
  cycle_to u r row at e cycle =
      let edge = cycle.edge in
      let next = ranked cycle.next (whole.within u cycle.next edge) in
      let one : next.0 ≤ r = are.falling u cycle.next r next.0 edge e next.1 in
      let two : r ≤ next.0 = falls cycle.next u next.0 r cycle.closes next.1 e in
      let same : next.0 ≡ r = omega arith in
      let row_is : edge.row ≡ row = one_element g u edge.row row edge.is_row at in (
        edge.place,
        cycle.next,
        subst (λ (x : List ℕ). slice_get x edge.place ≡ Some cycle.next) row_is edge.is_there,
        subst (λ (n : ℕ). slice_get ranks cycle.next ≡ Some n) same next.1,
      )

  -- the targets of a row have numbers
  pub row_ranked : (u : ℕ) (row : List ℕ) (slice numbers : List ℕ) → slice_get g u ≡ Some row → slice ≡ row → numbers ≡ ranks
      → (k v : ℕ) → slice_get slice k ≡ Some v → v < length numbers
  row_ranked u row slice numbers at is are_numbers k v e =
      let size : length ranks ≡ length g = are.sized in
      let there : slice_get row k ≡ Some v = subst (λ (x : List ℕ). slice_get x k ≡ Some v) is e in
      let low : v < length g = whole.within u v (record { row = row; is_row = at; place = k; is_there = there }) in
      let same : length numbers ≡ length ranks = ap length are_numbers in
      omega arith

  -- one flag more
  pub flagged : (n r : ℕ) (row : List ℕ) (slice numbers : List ℕ) (flag : Bool) (old new : List Bool)
      → slice_get g n ≡ Some row → slice ≡ row → numbers ≡ ranks → slice_get ranks n ≡ Some r → new ≡ old ++ flag ∷ []
      → (IsTrue flag ↔ ((k : ℕ) × (v : ℕ) × (slice_get slice k ≡ Some v) × (slice_get numbers v ≡ Some r)))
      → (length old ≡ n) × ((u : ℕ) (b : Bool) → slice_get old u ≡ Some b → (IsTrue b ↔ LiesOnCycle g u))
      → (length new ≡ n + 1) × ((u : ℕ) (b : Bool) → slice_get new u ≡ Some b → (IsTrue b ↔ LiesOnCycle g u))
  flagged n r row slice numbers flag old new at is are_numbers e added tells before =
      let longer : length new ≡ length old + 1 = ap length added ∙ length-append old (flag ∷ []) in
      let size : length old ≡ n = before.0 in
      (omega arith, each)
    where
      here : IsTrue flag ↔ LiesOnCycle g n
      here = (
        λ t. let f = tells.0 t in
            cycle_from n r row at e (f.0, f.1, subst (λ (x : List ℕ). slice_get x f.0 ≡ Some f.1) is f.2, subst (λ (x : List ℕ). slice_get x f.1 ≡ Some r) are_numbers f.3),
        λ l. let f = cycle_to n r row at e l in
            tells.1 (f.0, f.1, subst (λ (x : List ℕ). slice_get x f.0 ≡ Some f.1) (sym is) f.2, subst (λ (x : List ℕ). slice_get x f.1 ≡ Some r) (sym are_numbers) f.3),
      )

      at_n : (u : ℕ) (b : Bool) → u ≡ n → flag ≡ b → (IsTrue b ↔ LiesOnCycle g u)
      at_n u b e same = subst (λ (k : ℕ). IsTrue b ↔ LiesOnCycle g k) (sym e) (subst (λ (f : Bool). IsTrue f ↔ LiesOnCycle g n) same here)

      each : (u : ℕ) (b : Bool) → slice_get new u ≡ Some b → (IsTrue b ↔ LiesOnCycle g u)
      each u b d =
          elim (prefix_or_last old flag u b (subst (λ (x : List Bool). slice_get x u ≡ Some b) added d)) [
            | inl h ↦ before.1 u b h
            | inr h ↦ at_n u b (h.0 ∙ before.0) h.1
          ]
