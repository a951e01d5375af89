-- States stay at their level, and what their searches find is of functions of lower levels.
use Rattle.std.proofs.Common.{◌≡◌, ℕ, ◌+◌, ◌<◌, inl, inr, true, List, [], ◌∷◌, ◌++◌, Option, None, Some, refl, sym, subst, length, map, slice_get, true≢false, arith}
use Rattle.std.specs.List.{list_all, list_any}
use Rattle.std.proofs.lemmas.Bool.{and_parts}
use Rattle.cu_calculus.specs.declared.ConId.{ConId}
use Rattle.cu_calculus.specs.declared.FunId.{FunId}
use Rattle.cu_calculus.specs.declared.Head.TheVariants as head
use Rattle.cu_calculus.specs.declared.builtin.Primitive.TheVariants as prim
use Rattle.cu_calculus.specs.Claims.{Concludes, level_of}
use Rattle.cu_calculus.specs.Code as code
use Rattle.cu_calculus.specs.Code.{Code, arity_of, body_of, function_arity, is_rule}
use Rattle.cu_calculus.specs.FlatProgram.{program_of}
use Rattle.cu_calculus.specs.Gives.{Claim, listed}
use Rattle.cu_calculus.specs.Calls.{call_statement}
use Rattle.cu_calculus.specs.Proved.{IsProved}
use Rattle.cu_calculus.specs.Shape.{takes}
use Rattle.cu_calculus.proofs.CallStatements.{concludes_proved}
use Rattle.cu_calculus.proofs.FlatValid.{program_valid}
use Rattle.cu_calculus.specs.Value as value
use Rattle.cu_calculus.specs.Value.{Value, Values, count, values_of}
use Rattle.cu_calculus.specs.WellFormed.{is_well_formed}
use Rattle.cu_machine.specs.declared.Limits.{Limits}
use Rattle.cu_machine.specs.declared.SearchLimits.{SearchLimits}
use Rattle.cu_machine.specs.Among.{Among}
use Rattle.cu_machine.specs.Build.{kind_of_call, pushed, written}
use Rattle.cu_machine.specs.Graph.{Graph, Node, put, stuck}
use Rattle.cu_machine.specs.Listing.{Answered, listing}
use Rattle.cu_machine.specs.Need.{At, Dead, Done, Need, Wait, need_all}
use Rattle.cu_machine.specs.Next.{Go, Reading, delivered, is_above, is_too_large, moved, next, next_by, read, searched, spelled_all, stepped}
use Rattle.cu_machine.specs.Rewrite.{Become, Collect, Move, Overflows, move}
use Rattle.cu_machine.specs.Sort.{sorted}
use Rattle.cu_machine.specs.Spell.{cells_of_all, push_value, push_values}
use Rattle.cu_machine.specs.State.{Branch, Idle, MoreStates, NoState, Running, State, call_on, free_nodes, graph_of, numbers, start_of}
use Rattle.cu_machine.specs.Steps.{Steps, node}
use Rattle.cu_machine.specs.Validity.{IsValid, are_built, is_built}
use Rattle.cu_machine.proofs.MoveRows.{moves_row}
use Rattle.cu_machine.proofs.Searches.{sorted_all}
use Rattle.cu_machine.proofs.Successors.{answered_if, go_if, unless_if}
use Rattle.cu_laws.specs.AtLevel.{AreBelow, AreLevelsOf, IsAtLevel}
use Rattle.cu_laws.specs.Traced.{AreFound}
use Rattle.cu_laws.proofs.AtLevel.{BuiltAllowed, NodeAllowed, NodesAllowed, allowed_at, allowed_from, free_allowed, nodes_both, pushed_allowed, row_allowed, set_allowed, written_allowed}
use Rattle.cu_laws.proofs.CameFrom.{Keeps}
use Rattle.cu_laws.proofs.SearchAnswers.{found_claims_of, listed_by_kept}
use Rattle.cu_laws.proofs.TracedStates.{after_level_is, goes_on, was_blocked}

module _ (program : Code) (levels : List ℕ) (level : ℕ) where
  -- ---- values that are delivered

  mutual
    pub value_allowed : (next : ℕ) (v : Value) → is_built program v ≡ true → BuiltAllowed program levels level (push_value next v)
    value_allowed next value.Bottom built = absurd (true≢false (sym built))
    value_allowed next (value.Variable x) built = absurd (true≢false (sym built))
    value_allowed next (value.Literal l) built = record { parts = tt; top = tt }
    value_allowed next (value.Constructed c vs) built =
        record { parts = values_allowed next vs (and_parts (takes (arity_of program (head.Con c)) (count vs)) (are_built program vs) built).1; top = tt }
    value_allowed next (value.Partial h vs) built = absurd (true≢false (sym built))

    pub values_allowed : (next : ℕ) (vs : Values) → are_built program vs ≡ true → NodesAllowed program levels level (push_values next vs).nodes
    values_allowed next value.NoValue built = tt
    values_allowed next (value.MoreValues v vs) built =
        let parts = and_parts (is_built program v) (are_built program vs) built in
        let one = push_value next v in
        nodes_both program levels level (pushed one) (push_values (next + length (pushed one)) vs).nodes
        (pushed_allowed program levels level one (value_allowed next v parts.0)) (values_allowed (next + length (pushed one)) vs parts.1)

  listed_allowed : (next : ℕ) (nil cons : ConId) (vs : List Value) → list_all (is_built program) vs ≡ true → BuiltAllowed program levels level (push_value next (listed nil cons vs))
  listed_allowed next nil cons [] built = record { parts = tt; top = tt }
  listed_allowed next nil cons (v ∷ vs) built =
      let parts = and_parts (is_built program v) (list_all (is_built program) vs) built in
      let one = push_value next v in
      let later = next + length (pushed one) in
      let rest = push_value later (listed nil cons vs) in
      record {
        parts = nodes_both program levels level (pushed one) (pushed rest ++ []) (pushed_allowed program levels level one (value_allowed next v parts.0))
            (nodes_both program levels level (pushed rest) [] (pushed_allowed program levels level rest (listed_allowed later nil cons vs parts.1)) tt);
        top = tt;
      }

  delivered_allowed_by : (graph : Graph) (id : ℕ) (found : List Value) (values : Option ConId) → program.special.values ≡ values → list_all (is_built program) found ≡ true
      → NodesAllowed program levels level graph → NodesAllowed program levels level (delivered program graph id found)
  delivered_allowed_by graph id found values is built all =
      subst (λ (o : Option ConId). NodesAllowed program levels level (elim o [
        | Some c ↦ written graph id (push_value (length graph) (value.Constructed c (value.MoreValues (listed program.special.nil program.special.cons (sorted found)) value.NoValue)))
        | None ↦ put graph id stuck
      ])) (sym is) (by values)
    where
      by : (o : Option ConId) → NodesAllowed program levels level (elim o [
        | Some c ↦ written graph id (push_value (length graph) (value.Constructed c (value.MoreValues (listed program.special.nil program.special.cons (sorted found)) value.NoValue)))
        | None ↦ put graph id stuck
      ])
      by None = set_allowed program levels level graph id stuck all tt
      by (Some c) =
          let list = push_value (length graph) (listed program.special.nil program.special.cons (sorted found)) in
          let inner = listed_allowed (length graph) program.special.nil program.special.cons (sorted found) (sorted_all (is_built program) found built) in
          written_allowed program levels level graph id
          (push_value (length graph) (value.Constructed c (value.MoreValues (listed program.special.nil program.special.cons (sorted found)) value.NoValue))) all
          (record { parts = nodes_both program levels level (pushed list) [] (pushed_allowed program levels level list inner) tt; top = tt })

  -- ---- states

  abbrev pub StateAllowed : State → Type 0
  StateAllowed state = NodesAllowed program levels level (graph_of state)

  at_only : (only state : State) → Among state (only ∷ []) → StateAllowed only → StateAllowed state
  at_only only state (inl same) all = subst StateAllowed same all
  at_only only state (inr nowhere) all = absurd nowhere

  module _ (limits : Limits) (well : is_well_formed program ≡ true) (are : AreLevelsOf program levels) where
    among_become : (graph : Graph) (root id : ℕ) (goals : List ℕ) (all_graphs graphs : List Graph) (state : State) → IsValid program (Branch graph root goals Idle)
        → need_all program.special.truth graph root ≡ At id → move program graph id ≡ Become all_graphs → ((g : Graph) → Among g graphs → Among g all_graphs)
        → NodesAllowed program levels level graph → Among state (map (λ after. Branch after root goals Idle) graphs) → StateAllowed state
    among_become graph root id goals all_graphs [] state valid needed is sub all m = absurd m
    among_become graph root id goals all_graphs (after ∷ graphs) state valid needed is sub all (inl same) =
        subst StateAllowed same
        (row_allowed program levels level well are graph after id all (moves_row program graph after root id goals all_graphs valid needed is (sub after (inl refl))))
    among_become graph root id goals all_graphs (after ∷ graphs) state valid needed is sub all (inr rest) =
        among_become graph root id goals all_graphs graphs state valid needed is (λ g m. sub g (inr m)) all rest

    moved_allowed : (graph : Graph) (root id : ℕ) (goals : List ℕ) (what : Move) (states : List State) (state : State) → IsValid program (Branch graph root goals Idle)
        → need_all program.special.truth graph root ≡ At id → move program graph id ≡ what → NodesAllowed program levels level graph
        → moved program limits root goals graph id what ≡ Go states → Among state states → StateAllowed state
    moved_allowed graph root id goals (Become graphs) states state valid needed is all same m =
        let branches = map (λ after. Branch after root goals Idle) graphs in
        let whole : branches ≡ states = go_if (list_any (is_too_large limits) branches) limits branches states same in
        among_become graph root id goals graphs graphs state valid needed is (λ g at. at) all (subst (λ (xs : List State). Among state xs) (sym whole) m)
    moved_allowed graph root id goals (Overflows operation a b) states state valid needed is all same m = let no : ⊥ = cc in absurd no
    moved_allowed graph root id goals (Collect f arguments) states state valid needed is all same m =
        let inner = call_on program f arguments in
        let only = Branch graph root goals (Running id [] (MoreStates inner NoState)) in
        let whole : only ∷ [] ≡ states = go_if (is_too_large limits inner) limits (only ∷ []) states same in
        at_only only state (subst (λ (xs : List State). Among state xs) (sym whole) m) all

    next_by_allowed : (graph : Graph) (root : ℕ) (goals : List ℕ) (what : Need) (states : List State) (state : State) → IsValid program (Branch graph root goals Idle)
        → need_all program.special.truth graph root ≡ what → NodesAllowed program levels level graph → next_by program limits graph root goals what ≡ Go states
        → Among state states → StateAllowed state
    next_by_allowed graph root goals Done states state valid needed all same m =
        absurd (answered_if (is_above limits (cells_of_all (spelled_all graph root goals))) limits (read graph root goals) states same)
    next_by_allowed graph root goals Dead states state valid needed all same m = let no : ⊥ = cc in absurd no
    next_by_allowed graph root goals (Wait ids) states state valid needed all same m = let no : ⊥ = cc in absurd no
    next_by_allowed graph root goals (At id) states state valid needed all same m = moved_allowed graph root id goals (move program graph id) states state valid needed refl all same m

    pub next_allowed : (before state : State) (states : List State) → IsValid program before → StateAllowed before → next program limits before ≡ Go states → Among state states
        → StateAllowed state
    unfolding next IsValid
    next_allowed (Branch graph root goals Idle) state states valid all same m =
        next_by_allowed graph root goals (need_all program.special.truth graph root) states state valid refl all
        (unless_if (is_above limits (length graph)) limits (next_by program limits graph root goals (need_all program.special.truth graph root)) states same) m
    next_allowed (Branch graph root goals (Running id found NoState)) state states valid all same m =
        let only = Branch (delivered program graph id found) root goals Idle in
        let one = unless_if (is_above limits (length graph)) limits (searched program limits graph root goals id found NoState (stepped program limits NoState)) states same in
        let whole : only ∷ [] ≡ states = go_if (list_any (is_too_large limits) (only ∷ [])) limits (only ∷ []) states one in
        at_only only state (subst (λ (xs : List State). Among state xs) (sym whole) m)
        (delivered_allowed_by graph id found program.special.values refl valid.1.0.built all)
    next_allowed (Branch graph root goals (Running id found (MoreStates first rest))) state states valid all same m =
        let inner = MoreStates first rest in
        let one = unless_if (is_above limits (length graph)) limits (searched program limits graph root goals id found inner (stepped program limits inner)) states same in
        elim (after_level_is limits graph root goals id found (stepped program limits inner) states state one m) [
          | was_blocked is ↦ subst StateAllowed (sym is) (set_allowed program levels level graph id stuck all tt)
          | goes_on values next_states event is ↦ subst StateAllowed (sym is) all
        ]

    pub keeps_level : Keeps program limits (λ f. level_of levels f < level) StateAllowed
    keeps_level = record {
      next = next_allowed;
      passes = λ state all id f args is.
          (subst (λ (n : Node). NodeAllowed program levels level n) is (allowed_at program levels level (graph_of state) id all)).0;
    }

-- ---- the goal's level

pub start_allowed : (program : Code) (levels : List ℕ) (goal : FunId) → NodesAllowed program levels (level_of levels goal) (graph_of (start_of program goal))
start_allowed program levels goal = on (elim (function_arity program goal) [ Some n ↦ n | None ↦ 0 ])
  where
    call : (n : ℕ) (body : Option code.Body) → NodeAllowed program levels (level_of levels goal) (node (kind_of_call goal body) (numbers 0 n))
    call n None = tt
    call n (Some (code.Rule params body)) = (omega arith, tt)
    call n (Some (code.External prim.Failed)) = tt
    call n (Some (code.External operation)) = tt

    on : (n : ℕ) → NodesAllowed program levels (level_of levels goal) (free_nodes n ++ node (kind_of_call goal (body_of program goal)) (numbers 0 n) ∷ [])
    on n = nodes_both program levels (level_of levels goal) (free_nodes n) (node (kind_of_call goal (body_of program goal)) (numbers 0 n) ∷ [])
        (free_allowed program levels (level_of levels goal) n) (call n (body_of program goal), tt)

pub listed_at_level : (program : Code) (limits : SearchLimits) (levels : List ℕ) (goal : FunId) (depth : ℕ) (reading : Reading) → is_well_formed program ≡ true
    → is_rule (body_of program goal) ≡ true → AreLevelsOf program levels → Among (Answered depth reading) (listing program limits (start_of program goal)).lines
    → (claims : List Claim) × AreFound program limits.step claims
    × ((k : ℕ) (claim : Claim) → slice_get claims k ≡ Some claim → level_of levels claim.function < level_of levels goal)
    × Concludes (program_of program) claims goal (values_of reading.bindings) reading.value
listed_at_level program limits levels goal depth reading well rule are m =
    listed_by_kept program limits (λ f. level_of levels f < level_of levels goal) (StateAllowed program levels (level_of levels goal)) goal depth reading well rule
    (keeps_level program levels (level_of levels goal) limits.step well are) (start_allowed program levels goal) m

pub proved_at_level : (program : Code) (limits : SearchLimits) (levels : List ℕ) (goal : FunId) (depth : ℕ) (reading : Reading) → is_well_formed program ≡ true
    → is_rule (body_of program goal) ≡ true → AreLevelsOf program levels → Among (Answered depth reading) (listing program limits (start_of program goal)).lines
    → (claims : List Claim) × AreFound program limits.step claims × AreBelow levels (level_of levels goal) claims
    × IsProved (program_of program) claims (call_statement goal (values_of reading.bindings) reading.value)
proved_at_level program limits levels goal depth reading well rule are m =
    let found = listed_at_level program limits levels goal depth reading well rule are m in (
      found.0,
      found.1,
      found.2,
      concludes_proved (program_of program) found.0 goal (values_of reading.bindings) reading.value (program_valid program well)
          (found_claims_of program limits.step found.0 well found.1) found.3,
    )

pub stays_at_level : (program : Code) (levels : List ℕ) (level : ℕ) (graph after : Graph) (id : ℕ) → is_well_formed program ≡ true → AreLevelsOf program levels
    → IsAtLevel program levels level graph → Steps program graph id after → IsAtLevel program levels level after
stays_at_level program levels level graph after id well are at step x below =
    allowed_at program levels level after x (row_allowed program levels level well are graph after id (allowed_from program levels level graph at) step)
