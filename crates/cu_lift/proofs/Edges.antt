-- The graph of rows of mentions.
use Rattle.std.proofs.Common.{◌≡◌, ℕ, ◌+◌, ◌<◌, ◌≤◌, List, [], ◌∷◌, ◌++◌, drop, length, Some, slice_get, refl, ap, sym, ◌∙◌, subst}
use Rattle.std.proofs.lemmas.List.{drop_all, length-map}
use Rattle.std.specs.declared.alloc.Global.{Global}
use Rattle.std.specs.declared.vec.Vec.{Vec}
use Rattle.cu_cycles.proofs.Places.{get_map, mapped_at, nothing_after}
use Rattle.cu_cycles.proofs.Rows.{as_many}
use Rattle.cu_cycles.specs.Components.{AreRanks}
use Rattle.cu_cycles.specs.Graph.{Edge, Graph, IsWhole, rows_in}
use Rattle.cu_lift.proofs.RowSteps.{map_step}
use Rattle.cu_lift.specs.Inside.Levelling.{Mentioned}
use Rattle.cu_lift.specs.Inside.MentionsOf.{MentionRows, targets, targets_in}
use Rattle.cu_lift.specs.declared.mentions.Mention.{Mention}

pub as_many_targets : (rows : MentionRows) → length (targets_in rows) ≡ length rows
as_many_targets rows = length-map rows (λ (r : Vec Mention Global). targets r.items)

pub edge_mention : (rows : MentionRows) (u v : ℕ) → Edge (targets_in rows) u v → (m : Mention) × Mentioned rows u m × (m.function.0 ≡ v)
edge_mention rows u v edge =
    let r = mapped_at (λ (r : Vec Mention Global). targets r.items) rows u edge.row edge.is_row in
    let m = mapped_at (λ (x : Mention). x.function.0) r.0.items edge.place v (subst (λ (ts : List ℕ). slice_get ts edge.place ≡ Some v) (sym r.2) edge.is_there) in
    (m.0, record { row = r.0; is_row = r.1; place = edge.place; is_there = m.1 }, m.2)

pub mention_edge : (rows : MentionRows) (u : ℕ) (m : Mention) → Mentioned rows u m → Edge (targets_in rows) u m.function.0
mention_edge rows u m h = record {
  row = targets h.row.items;
  is_row = get_map (λ (r : Vec Mention Global). targets r.items) rows u h.row h.is_row;
  place = h.place;
  is_there = get_map (λ (x : Mention). x.function.0) h.row.items h.place m h.is_there;
}

-- ---- the graph is made, row by row

rows_push : (rows : List (Vec ℕ Global)) (new : Vec ℕ Global) → rows_in (rows ++ new ∷ []) ≡ rows_in rows ++ new.items ∷ []
rows_push [] new = refl
rows_push (row ∷ rows) new = ap (λ (xs : Graph). row.items ∷ xs) (rows_push rows new)

pub edges_more : (rows : MentionRows) (i : ℕ) (row : Vec Mention Global) (slice : List Mention) (made : Vec ℕ Global) (old new : List (Vec ℕ Global))
    → slice_get rows i ≡ Some row → slice ≡ row.items → made.items ≡ targets slice → new ≡ old ++ made ∷ []
    → rows_in old ++ targets_in (drop i rows) ≡ targets_in rows → rows_in new ++ targets_in (drop (i + 1) rows) ≡ targets_in rows
edges_more rows i row slice made old new at same is pushed before =
    map_step (λ (r : Vec Mention Global). targets r.items) rows i row (rows_in old) (rows_in new) before at
    (ap rows_in pushed ∙ rows_push old made ∙ ap (λ (ts : List ℕ). rows_in old ++ ts ∷ []) (is ∙ ap targets same))

pub edges_done : (edges : List (Vec ℕ Global)) (rows : MentionRows) (i : ℕ) → length rows ≤ i → rows_in edges ++ targets_in (drop i rows) ≡ targets_in rows
    → rows_in edges ≡ targets_in rows
edges_done edges rows i end e =
    nothing_after (rows_in edges) ∙ ap (λ (rs : MentionRows). rows_in edges ++ targets_in rs) (sym (drop_all i rows end)) ∙ e

-- ---- the graph that the code keeps

pub same_graph : (slice edges : List (Vec ℕ Global)) (rows mentions : MentionRows) → slice ≡ edges → rows_in edges ≡ targets_in rows → rows ≡ mentions
    → rows_in slice ≡ targets_in mentions
same_graph slice edges rows mentions same are alike = ap rows_in same ∙ are ∙ ap targets_in alike

pub whole_graph : (slice edges : List (Vec ℕ Global)) (rows mentions : MentionRows) → slice ≡ edges → rows_in edges ≡ targets_in rows → rows ≡ mentions
    → IsWhole (targets_in mentions) → IsWhole (rows_in slice)
whole_graph slice edges rows mentions same are alike whole = subst IsWhole (sym (same_graph slice edges rows mentions same are alike)) whole

pub within_graph : (slice : List (Vec ℕ Global)) (g : Graph) (n : ℕ) → rows_in slice ≡ g → n < length g → n < length slice
within_graph slice g n same low = subst (λ (k : ℕ). n < k) (ap length (sym same) ∙ as_many slice) low

pub ranked_graph : (slice edges : List (Vec ℕ Global)) (rows : MentionRows) (ranks : List ℕ) (count : ℕ) → slice ≡ edges → rows_in edges ≡ targets_in rows
    → AreRanks (rows_in slice) ranks count → AreRanks (targets_in rows) ranks count
ranked_graph slice edges rows ranks count same are ranked = subst (λ (g : Graph). AreRanks g ranks count) (same_graph slice edges rows rows same are refl) ranked
