use Rattle.std.proofs.Common.{◌≡◌, ℕ, List, None, Option, Some, ap, sym, ◌∙◌, length, refl, slice_get, subst, arith}
use Rattle.cu_cycles.specs.Graph.{Graph, IsWhole, Reach}
use Rattle.cu_kernel.specs.Kernel.{program_of}
use Rattle.cu_lift.proofs.Edges.{ranked_graph, same_graph, whole_graph, within_graph}
use Rattle.cu_lift.proofs.Outcomes.{collected_within, first_within, found_levels, reaches_first, reaches_caller}
use Rattle.cu_lift.proofs.Recursion.{is_calm, set_recursion}
use Rattle.cu_lift.specs.Inside.Levelling.{IsCycleOf, IsFirstCall}
use Rattle.cu_lift.specs.Inside.MentionsOf.{MentionRows, rows_of, targets_in}
use Rattle.cu_lift.specs.declared.set_levels.Call.{Call}
use Rattle.cu_lift.proofs.set_levels.levels_or_cycle.Goals as goal

whole_as : (slice rows : MentionRows) → slice ≡ rows → IsWhole (targets_in rows) → IsWhole (targets_in slice)
whole_as slice rows same whole = subst (λ (x : MentionRows). IsWhole (targets_in x)) (sym same) whole

first_as : (ranks slice : List ℕ) (calls row : List (Option Call)) (first f : ℕ) (call k : Call) → slice ≡ ranks → row ≡ calls → first ≡ f → call ≡ k
    → IsFirstCall slice row f k → IsFirstCall ranks calls first call
first_as ranks slice calls row first f call k same alike p q is =
    subst (λ (x : List ℕ). IsFirstCall x calls first call) same (subst (λ (x : List (Option Call)). IsFirstCall slice x first call) alike
    (subst (λ (x : ℕ). IsFirstCall slice row x call) (sym p) (subst (λ (x : Call). IsFirstCall slice row f x) (sym q) is)))

none_as : (ranks slice : List ℕ) (calls row : List (Option Call)) → slice ≡ ranks → row ≡ calls
    → ((f r : ℕ) → slice_get slice f ≡ Some r → slice_get row r ≡ Some None) → (f r : ℕ) → slice_get ranks f ≡ Some r → slice_get calls r ≡ Some None
none_as ranks slice calls row same alike none f r e =
    subst (λ (x : List (Option Call)). slice_get x r ≡ Some None) alike
    (none f r (subst (λ (x : List ℕ). slice_get x f ≡ Some r) (sym same) e))

pub find_components-requires : goal.find_components-requires
find_components-requires c =
    whole_graph c.as_slice-graph.result.now c.in_ok-edges.edges.items c.as_slice-rows.result.now c.in_ok-mentions.mentions.items c.as_slice-graph.ensures.value
    c.in_ok-edges.ensures c.as_slice-rows.ensures.value c.in_ok-mentions.ensures.whole

pub calls-requires-clause-whole : goal.calls-requires-clause-whole
calls-requires-clause-whole c =
    whole_as c.as_slice-rows.result.now c.in_ok-mentions.mentions.items c.as_slice-rows.ensures.value c.in_ok-mentions.ensures.whole

pub calls-requires-clause-ranks : goal.calls-requires-clause-ranks
calls-requires-clause-ranks c =
    ranked_graph c.as_slice-graph.result.now c.in_ok-edges.edges.items c.as_slice-rows.result.now c.in_ok-found.found.ranks.items c.in_ok-found.found.count
    c.as_slice-graph.ensures.value c.in_ok-edges.ensures c.in_ok-found.ensures

pub first_recursion-requires : goal.first_recursion-requires
first_recursion-requires c f r e =
    let less = c.in_ok-found.ensures.below f r (subst (λ (x : List ℕ). slice_get x f ≡ Some r) c.as_slice.ensures.value e) in
    let size = c.in_ok-calls.ensures.sized in
    let same : length c.as_slice-2.result.now ≡ length c.in_ok-calls.calls.items = ap length c.as_slice-2.ensures.value in
    omega arith

-- ---- where a component has a call

pub cycle-requires-clause-whole : goal.cycle-requires-clause-whole
cycle-requires-clause-whole c =
    whole_graph c.as_slice-graph.result.now c.in_ok-edges.edges.items c.as_slice-rows.result.now c.in_ok-mentions.mentions.items c.as_slice-graph.ensures.value
    c.in_ok-edges.ensures c.as_slice-rows.ensures.value c.in_ok-mentions.ensures.whole

pub cycle-requires-clause-first : goal.cycle-requires-clause-first
cycle-requires-clause-first c =
    let rows = c.as_slice-rows.result.now in
    let ranks = c.in_ok-found.found.ranks.items in
    let count = c.in_ok-found.found.count in
    let calls = c.in_ok-calls.calls.items in
    let slice = c.as_slice-graph.result.now in
    let edges = c.in_ok-edges.edges.items in
    within_graph slice (targets_in rows) c.in-Some.first (same_graph slice edges rows rows c.as_slice-graph.ensures.value c.in_ok-edges.ensures refl)
    (first_within rows ranks count calls
    (ranked_graph slice edges rows ranks count c.as_slice-graph.ensures.value c.in_ok-edges.ensures c.in_ok-found.ensures)
    c.in_ok-calls.ensures c.in-Some.first c.in-Some.call
    (first_as ranks c.as_slice.result.now calls c.as_slice-2.result.now c.in-Some.first _ c.in-Some.call _
    c.as_slice.ensures.value c.as_slice-2.ensures.value c.in-Some.first-is c.in-Some.call-is c.in-Some.ensures.some))

pub cycle-requires-clause-collected : goal.cycle-requires-clause-collected
cycle-requires-clause-collected c =
    let rows = c.as_slice-rows.result.now in
    let ranks = c.in_ok-found.found.ranks.items in
    let count = c.in_ok-found.found.count in
    let calls = c.in_ok-calls.calls.items in
    let slice = c.as_slice-graph.result.now in
    let edges = c.in_ok-edges.edges.items in
    within_graph slice (targets_in rows) c.in-Some.call.collected (same_graph slice edges rows rows c.as_slice-graph.ensures.value c.in_ok-edges.ensures refl)
    (collected_within rows ranks count calls
    (ranked_graph slice edges rows ranks count c.as_slice-graph.ensures.value c.in_ok-edges.ensures c.in_ok-found.ensures)
    c.in_ok-calls.ensures c.in-Some.first c.in-Some.call
    (first_as ranks c.as_slice.result.now calls c.as_slice-2.result.now c.in-Some.first _ c.in-Some.call _
    c.as_slice.ensures.value c.as_slice-2.ensures.value c.in-Some.first-is c.in-Some.call-is c.in-Some.ensures.some))

pub cycle-requires-clause-to : goal.cycle-requires-clause-to
cycle-requires-clause-to c =
    let rows = c.as_slice-rows.result.now in
    let ranks = c.in_ok-found.found.ranks.items in
    let count = c.in_ok-found.found.count in
    let calls = c.in_ok-calls.calls.items in
    let slice = c.as_slice-graph.result.now in
    let edges = c.in_ok-edges.edges.items in
    subst (λ (g : Graph). Reach g c.in-Some.first c.in-Some.call.caller)
    (sym (same_graph slice edges rows rows c.as_slice-graph.ensures.value c.in_ok-edges.ensures refl))
    (reaches_caller rows ranks count calls
    (ranked_graph slice edges rows ranks count c.as_slice-graph.ensures.value c.in_ok-edges.ensures c.in_ok-found.ensures)
    c.in_ok-calls.ensures c.in-Some.first c.in-Some.call
    (first_as ranks c.as_slice.result.now calls c.as_slice-2.result.now c.in-Some.first _ c.in-Some.call _
    c.as_slice.ensures.value c.as_slice-2.ensures.value c.in-Some.first-is c.in-Some.call-is c.in-Some.ensures.some))

pub cycle-requires-clause-to_first : goal.cycle-requires-clause-to_first
cycle-requires-clause-to_first c =
    let rows = c.as_slice-rows.result.now in
    let ranks = c.in_ok-found.found.ranks.items in
    let count = c.in_ok-found.found.count in
    let calls = c.in_ok-calls.calls.items in
    let slice = c.as_slice-graph.result.now in
    let edges = c.in_ok-edges.edges.items in
    subst (λ (g : Graph). Reach g c.in-Some.call.collected c.in-Some.first)
    (sym (same_graph slice edges rows rows c.as_slice-graph.ensures.value c.in_ok-edges.ensures refl))
    (reaches_first rows ranks count calls
    (ranked_graph slice edges rows ranks count c.as_slice-graph.ensures.value c.in_ok-edges.ensures c.in_ok-found.ensures)
    c.in_ok-calls.ensures c.in-Some.first c.in-Some.call
    (first_as ranks c.as_slice.result.now calls c.as_slice-2.result.now c.in-Some.first _ c.in-Some.call _
    c.as_slice.ensures.value c.as_slice-2.ensures.value c.in-Some.first-is c.in-Some.call-is c.in-Some.ensures.some))

pub returns-in-Some : goal.returns-in-Some
returns-in-Some c =
    let rows = c.as_slice-rows.result.now in
    let ranks = c.in_ok-found.found.ranks.items in
    let count = c.in_ok-found.found.count in
    let calls = c.in_ok-calls.calls.items in
    let slice = c.as_slice-graph.result.now in
    let edges = c.in_ok-edges.edges.items in
    let cycle = c.in_ok-cycle-in-Some.field-0.items in
    set_recursion (program_of c.args.program.now) rows (ap rows_of c.as_slice-rows.ensures.value ∙ c.in_ok-mentions.ensures.graph)
    ranks count (whole_as rows c.in_ok-mentions.mentions.items c.as_slice-rows.ensures.value c.in_ok-mentions.ensures.whole)
    (ranked_graph slice edges rows ranks count c.as_slice-graph.ensures.value c.in_ok-edges.ensures c.in_ok-found.ensures)
    calls c.in_ok-calls.ensures c.in-Some.first c.in-Some.call
    (first_as ranks c.as_slice.result.now calls c.as_slice-2.result.now c.in-Some.first _ c.in-Some.call _
    c.as_slice.ensures.value c.as_slice-2.ensures.value c.in-Some.first-is c.in-Some.call-is c.in-Some.ensures.some)
    cycle
    (subst (λ (g : Graph). IsCycleOf g c.in-Some.first c.in-Some.call.caller c.in-Some.call.collected cycle)
    (same_graph slice edges rows rows c.as_slice-graph.ensures.value c.in_ok-edges.ensures refl) c.in_ok-cycle-in-Some.ensures)

-- ---- where none has

pub least_levels-requires-clause-whole : goal.least_levels-requires-clause-whole
least_levels-requires-clause-whole c =
    whole_as c.as_slice-rows.result.now c.in_ok-mentions.mentions.items c.as_slice-rows.ensures.value c.in_ok-mentions.ensures.whole

pub least_levels-requires-clause-ranks : goal.least_levels-requires-clause-ranks
least_levels-requires-clause-ranks c =
    ranked_graph c.as_slice-graph.result.now c.in_ok-edges.edges.items c.as_slice-rows.result.now c.in_ok-found.found.ranks.items c.in_ok-found.found.count
    c.as_slice-graph.ensures.value c.in_ok-edges.ensures c.in_ok-found.ensures

pub least_levels-requires-clause-calm : goal.least_levels-requires-clause-calm
least_levels-requires-clause-calm c =
    let rows = c.as_slice-rows.result.now in
    let ranks = c.in_ok-found.found.ranks.items in
    let count = c.in_ok-found.found.count in
    let calls = c.in_ok-calls.calls.items in
    is_calm (program_of c.args.program.now) rows (ap rows_of c.as_slice-rows.ensures.value ∙ c.in_ok-mentions.ensures.graph)
    ranks count (whole_as rows c.in_ok-mentions.mentions.items c.as_slice-rows.ensures.value c.in_ok-mentions.ensures.whole)
    (ranked_graph c.as_slice-graph.result.now c.in_ok-edges.edges.items rows ranks count c.as_slice-graph.ensures.value c.in_ok-edges.ensures c.in_ok-found.ensures)
    calls c.in_ok-calls.ensures
    (none_as ranks c.as_slice.result.now calls c.as_slice-2.result.now c.as_slice.ensures.value c.as_slice-2.ensures.value c.in-None.ensures.none)

pub returns : goal.returns
returns c =
    let rows = c.as_slice-rows.result.now in
    let ranks = c.in_ok-found.found.ranks.items in
    let count = c.in_ok-found.found.count in
    found_levels (program_of c.args.program.now) rows ranks count c.in_ok-least_levels-in-None.field-0.items
    (ap rows_of c.as_slice-rows.ensures.value ∙ c.in_ok-mentions.ensures.graph)
    (ranked_graph c.as_slice-graph.result.now c.in_ok-edges.edges.items rows ranks count c.as_slice-graph.ensures.value c.in_ok-edges.ensures c.in_ok-found.ensures)
    c.in_ok-least_levels-in-None.ensures
