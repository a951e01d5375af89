-- States stay traced at their level, and so do those of the searches that run in them.
use Rattle.std.proofs.Common.{◌≡◌, ℕ, zero, suc, ◌-◌, inl, inr, Bool, true, false, if◌then◌else◌, List, [], ◌∷◌, ◌++◌, Option, None, Some, refl, ap, sym, ◌∙◌, subst, length, map, arith, eq-eqb}
use Rattle.std.specs.List.{list_any}
use Rattle.cu_calculus.specs.declared.FunId.{FunId}
use Rattle.cu_calculus.specs.declared.builtin.Primitive.TheVariants as prim
use Rattle.cu_calculus.specs.Claims.{level_of}
use Rattle.cu_calculus.specs.Code as code
use Rattle.cu_calculus.specs.Code.{Code, body_of, function_arity, is_rule}
use Rattle.cu_calculus.specs.Shape.{is_ground, takes}
use Rattle.cu_calculus.specs.Value.{Value, Values, count}
use Rattle.cu_calculus.specs.WellFormed.{is_well_formed}
use Rattle.cu_machine.specs.declared.Kind.TheVariants as kind
use Rattle.cu_machine.specs.declared.Limits.{Limits}
use Rattle.cu_machine.specs.Among.{Among}
use Rattle.cu_machine.specs.Build.{kind_of_call}
use Rattle.cu_machine.specs.Graph.{Graph, Node, node_at}
use Rattle.cu_machine.specs.Level.{go_list, level, level_by, step_level}
use Rattle.cu_machine.specs.Need.{At, Dead, Done, Need, Wait, need_all}
use Rattle.cu_machine.specs.Next.{Answer, Blocked, Fails, Go, Halts, LevelEvent, Next, On, Stops, Waits, delivered, is_above, is_too_large, moved, next, next_by, read, searched, spelled_all, stepped, with_found, with_outcome}
use Rattle.cu_machine.specs.Rewrite.{Become, Collect, Move, Overflows, move}
use Rattle.cu_machine.specs.Run.{only_state, reached_on, run, run_on}
use Rattle.cu_machine.specs.Spell.{cells_of_all, push_values}
use Rattle.cu_machine.specs.State.{Branch, Idle, MoreStates, NoState, Running, State, States, call_on, start_of, states_of}
use Rattle.cu_machine.specs.Steps.{node}
use Rattle.cu_machine.specs.Validity.{IsValid, are_built}
use Rattle.cu_machine.proofs.Depth.{among_append}
use Rattle.cu_machine.proofs.Levels.{among_flat}
use Rattle.cu_machine.proofs.Runs.{run_reaches}
use Rattle.cu_machine.proofs.Searches.{all_built_fit, follows_valid}
use Rattle.cu_machine.proofs.Starts.{call_on_valid, start_valid}
use Rattle.cu_machine.proofs.Successors.{answered_if, go_if, only_set_calls, unless_if}
use Rattle.cu_laws.specs.AtLevel.{AreLevelsOf}
use Rattle.cu_laws.specs.Traced.{IsTraced}
use Rattle.cu_laws.specs.TracedAt.{AllTracedAt, TracedAt}
use Rattle.cu_laws.proofs.AtLevel.{NodeAllowed, allowed_at, allowed_from, nodes_both}
use Rattle.cu_laws.proofs.LevelStates.{StateAllowed, next_allowed, start_allowed, values_allowed}
use Rattle.cu_laws.proofs.TracedStates.{Collected, after_level_is, collected_at, collected_built, goes_on, next_traced, was_blocked}

-- ---- what is after an outcome of a level

-- a state that follows a level follows one of its states
outcome_has : (T : State → Type 0) (event : Next) (others : LevelEvent) (values : List Value) (states : List State)
    → ((prefix : List State) (state : State) → event ≡ Go prefix → Among state prefix → T state)
    → ((vs : List Value) (more : List State) → others ≡ On vs more → (state : State) → Among state more → T state)
    → with_outcome event others ≡ On values states → (state : State) → Among state states → T state
outcome_has T (Stops stop) others values states one rest same state m = let no : ⊥ = cc in absurd no
outcome_has T (Waits names) others values states one rest same state m = let no : ⊥ = cc in absurd no
outcome_has T Fails others values states one rest same state m = rest values states same state m
outcome_has T (Answer reading) others values states one rest same state m = by (is_ground reading.value) others rest same
  where
    by : (b : Bool) (what : LevelEvent) → ((vs : List Value) (more : List State) → what ≡ On vs more → (s : State) → Among s more → T s)
        → (if b then with_found reading.value what else Blocked) ≡ On values states → T state
    by false what more e = let no : ⊥ = cc in absurd no
    by true Blocked more e = let no : ⊥ = cc in absurd no
    by true (Halts stop) more e = let no : ⊥ = cc in absurd no
    by true (On vs ss) more e =
        let all : ss ≡ states = cc in more vs ss refl state (subst (λ (xs : List State). Among state xs) (sym all) m)
outcome_has T (Go prefix) Blocked values states one rest same state m = let no : ⊥ = cc in absurd no
outcome_has T (Go prefix) (Halts stop) values states one rest same state m = let no : ⊥ = cc in absurd no
outcome_has T (Go prefix) (On vs more) values states one rest same state m =
    let all : prefix ++ more ≡ states = cc in
    elim (among_append state prefix more (subst (λ (xs : List State). Among state xs) (sym all) m)) [
      | inl first ↦ one prefix state refl first
      | inr second ↦ rest vs more refl state second
    ]

one_call : (graph : Graph) (id : ℕ) (f g : FunId) (us vs : List ℕ) → node_at graph id ≡ node (kind.SetCall f) us → node_at graph id ≡ node (kind.SetCall g) vs → f ≡ g
one_call graph id f g us vs first second =
    let kinds : kind.SetCall f ≡ kind.SetCall g = ap (λ (n : Node). n.kind) (sym first ∙ second) in cc

module _ (program : Code) (limits : Limits) (levels : List ℕ) where
  -- ---- the parts of a traced state

  -- each state of a running search's level is traced at the function's
  abbrev InnerTraced : State → Type 0
  InnerTraced (Branch graph root goals Idle) = Unit {0}
  InnerTraced (Branch graph root goals (Running id found inner)) =
      (f : FunId) (args : List ℕ) → node_at graph id ≡ node (kind.SetCall f) args → AllTracedAt program limits levels (level_of levels f) inner

  pub valid_of : (k : ℕ) (state : State) → TracedAt program limits levels k state → IsValid program state
  unfolding TracedAt
  valid_of k (Branch graph root goals search) traced = traced.0

  pub allowed_of : (k : ℕ) (state : State) → TracedAt program limits levels k state → StateAllowed program levels k state
  unfolding TracedAt
  allowed_of k (Branch graph root goals search) traced = allowed_from program levels k graph traced.1

  pub search_of : (k : ℕ) (state : State) → TracedAt program limits levels k state → IsTraced program limits state
  unfolding TracedAt
  search_of k (Branch graph root goals Idle) traced = tt
  search_of k (Branch graph root goals (Running id found inner)) traced = traced.2.0

  inner_of : (k : ℕ) (graph : Graph) (root : ℕ) (goals : List ℕ) (id : ℕ) (found : List Value) (inner : States)
      → TracedAt program limits levels k (Branch graph root goals (Running id found inner)) → InnerTraced (Branch graph root goals (Running id found inner))
  unfolding TracedAt
  inner_of k graph root goals id found inner traced f args is =
      let search = traced.2.0 in
      subst (λ (g : FunId). AllTracedAt program limits levels (level_of levels g) inner) (one_call graph id search.function f search.args args search.node_is is) traced.2.1

  traced_from : (k : ℕ) (state : State) → IsValid program state → StateAllowed program levels k state → IsTraced program limits state → InnerTraced state
      → TracedAt program limits levels k state
  unfolding TracedAt
  traced_from k (Branch graph root goals Idle) valid allowed search inner = (valid, λ x below. allowed_at program levels k graph x allowed, tt)
  traced_from k (Branch graph root goals (Running id found level)) valid allowed search inner =
      (valid, λ x below. allowed_at program levels k graph x allowed, (search, inner search.function search.args search.node_is))

  all_traced : (k : ℕ) (states : List State) → ((state : State) → Among state states → TracedAt program limits levels k state)
      → AllTracedAt program limits levels k (states_of states)
  unfolding TracedAt
  all_traced k [] each = tt
  all_traced k (state ∷ states) each = (each state (inl refl), all_traced k states (λ other m. each other (inr m)))

  module _ (well : is_well_formed program ≡ true) where
    -- ---- starts

    pub start_traced : (goal : FunId) → is_rule (body_of program goal) ≡ true → TracedAt program limits levels (level_of levels goal) (start_of program goal)
    start_traced goal rule = traced_from (level_of levels goal) (start_of program goal) (start_valid program goal well rule) (start_allowed program levels goal) tt tt

    call_allowed : (f : FunId) (arguments : Values) → are_built program arguments ≡ true → StateAllowed program levels (level_of levels f) (call_on program f arguments)
    call_allowed f arguments built =
        nodes_both program levels (level_of levels f) (push_values 0 arguments).nodes (node (kind_of_call f (body_of program f)) (push_values 0 arguments).ids ∷ [])
        (values_allowed program levels (level_of levels f) 0 arguments built) (call (body_of program f), tt)
      where
        call : (body : Option code.Body) → NodeAllowed program levels (level_of levels f) (node (kind_of_call f body) (push_values 0 arguments).ids)
        call None = tt
        call (Some (code.Rule params body)) = (omega arith, tt)
        call (Some (code.External prim.Failed)) = tt
        call (Some (code.External operation)) = tt

    pub call_traced : (f : FunId) (arguments : Values) → function_arity program f ≡ Some (count arguments) → are_built program arguments ≡ true
        → TracedAt program limits levels (level_of levels f) (call_on program f arguments)
    call_traced f arguments arity built =
        let whole : takes (function_arity program f) (count arguments) ≡ true =
        subst (λ (o : Option ℕ). takes o (count arguments) ≡ true) (sym arity) (eq-eqb (count arguments) (count arguments) refl) in
        traced_from (level_of levels f) (call_on program f arguments)
        (call_on_valid program f arguments well whole (all_built_fit program arguments built)) (call_allowed f arguments built) tt tt

    -- ---- a state in which no search runs

    inner_at_only : (only state : State) → Among state (only ∷ []) → InnerTraced only → InnerTraced state
    inner_at_only only state (inl same) inner = subst InnerTraced same inner
    inner_at_only only state (inr nowhere) inner = absurd nowhere

    inner_idle : (root : ℕ) (goals : List ℕ) (graphs : List Graph) (state : State) → Among state (map (λ after. Branch after root goals Idle) graphs) → InnerTraced state
    inner_idle root goals [] state m = absurd m
    inner_idle root goals (graph ∷ graphs) state (inl same) = subst InnerTraced same tt
    inner_idle root goals (graph ∷ graphs) state (inr rest) = inner_idle root goals graphs state rest

    -- the call in which a search begins is traced
    begun_inner : (graph : Graph) (root id : ℕ) (goals : List ℕ) (f : FunId) (arguments : Values) → IsValid program (Branch graph root goals Idle)
        → IsValid program (Branch graph root goals (Running id [] (MoreStates (call_on program f arguments) NoState)))
        → need_all program.special.truth graph root ≡ At id → Collected graph id f arguments
        → InnerTraced (Branch graph root goals (Running id [] (MoreStates (call_on program f arguments) NoState)))
    unfolding IsValid TracedAt
    begun_inner graph root id goals f arguments before valid needed found g args is =
        let built = collected_built program graph root id goals f arguments before needed found in
        let allowed = call_allowed f arguments (subst (λ (vs : Values). are_built program vs ≡ true) (sym found.same) built) in
        let traced = traced_from (level_of levels f) (call_on program f arguments) valid.1.1.0 allowed tt tt in
        let same : f ≡ g = one_call graph id f g found.args args found.is is in
        (subst (λ (h : FunId). TracedAt program limits levels (level_of levels h) (call_on program f arguments)) same traced, tt)

    moved_inner : (graph : Graph) (root id : ℕ) (goals : List ℕ) (what : Move) (states : List State) (state : State) → IsValid program (Branch graph root goals Idle)
        → need_all program.special.truth graph root ≡ At id → move program graph id ≡ what → moved program limits root goals graph id what ≡ Go states
        → Among state states → IsValid program state → InnerTraced state
    moved_inner graph root id goals (Become graphs) states state before needed is same m valid =
        let branches = map (λ after. Branch after root goals Idle) graphs in
        let all : branches ≡ states = go_if (list_any (is_too_large limits) branches) limits branches states same in
        inner_idle root goals graphs state (subst (λ (xs : List State). Among state xs) (sym all) m)
    moved_inner graph root id goals (Overflows operation a b) states state before needed is same m valid = let no : ⊥ = cc in absurd no
    moved_inner graph root id goals (Collect f arguments) states state before needed is same m valid =
        let inner = call_on program f arguments in
        let only = Branch graph root goals (Running id [] (MoreStates inner NoState)) in
        let all : only ∷ [] ≡ states = go_if (is_too_large limits inner) limits (only ∷ []) states same in
        let found = collected_at program graph id f arguments (node_at graph id).kind (node_at graph id).args refl
        (only_set_calls program graph id (node_at graph id).kind (node_at graph id).args) is in
        at_begun only (subst (λ (xs : List State). Among state xs) (sym all) m) (λ there. begun_inner graph root id goals f arguments before there needed found)
      where
        at_begun : (only : State) → Among state (only ∷ []) → (IsValid program only → InnerTraced only) → InnerTraced state
        at_begun only (inl is_only) inner = subst InnerTraced is_only (inner (subst (λ (s : State). IsValid program s) (sym is_only) valid))
        at_begun only (inr nowhere) inner = absurd nowhere

    next_by_inner : (graph : Graph) (root : ℕ) (goals : List ℕ) (what : Need) (states : List State) (state : State) → IsValid program (Branch graph root goals Idle)
        → need_all program.special.truth graph root ≡ what → next_by program limits graph root goals what ≡ Go states → Among state states → IsValid program state
        → InnerTraced state
    next_by_inner graph root goals Done states state before needed same m valid =
        absurd (answered_if (is_above limits (cells_of_all (spelled_all graph root goals))) limits (read graph root goals) states same)
    next_by_inner graph root goals Dead states state before needed same m valid = let no : ⊥ = cc in absurd no
    next_by_inner graph root goals (Wait ids) states state before needed same m valid = let no : ⊥ = cc in absurd no
    next_by_inner graph root goals (At id) states state before needed same m valid =
        moved_inner graph root id goals (move program graph id) states state before needed refl same m valid

    -- ---- all states

    module _ (are : AreLevelsOf program levels) where
      -- what remains to be shown of a state that follows: its search
      with_inner : (k : ℕ) (before state : State) (states : List State) → TracedAt program limits levels k before → next program limits before ≡ Go states → Among state states
          → InnerTraced state → TracedAt program limits levels k state
      with_inner k before state states traced same m inner =
          let valid = valid_of k before traced in
          traced_from k state (follows_valid program limits well before state states valid same m)
          (next_allowed program levels k limits well are before state states valid (allowed_of k before traced) same m)
          (next_traced program limits before state states valid (search_of k before traced) same m) inner

      mutual
        unfolding TracedAt next

        pub next_stays : (k : ℕ) (before state : State) (states : List State) → TracedAt program limits levels k before → next program limits before ≡ Go states
            → Among state states → TracedAt program limits levels k state
        next_stays k (Branch graph root goals Idle) state states traced same m =
            with_inner k (Branch graph root goals Idle) state states traced same m
            (next_by_inner graph root goals (need_all program.special.truth graph root) states state traced.0 refl
            (unless_if (is_above limits (length graph)) limits (next_by program limits graph root goals (need_all program.special.truth graph root)) states same) m
            (follows_valid program limits well (Branch graph root goals Idle) state states traced.0 same m))
        next_stays k (Branch graph root goals (Running id found NoState)) state states traced same m =
            let only = Branch (delivered program graph id found) root goals Idle in
            let one = unless_if (is_above limits (length graph)) limits (searched program limits graph root goals id found NoState (stepped program limits NoState)) states same in
            let all : only ∷ [] ≡ states = go_if (list_any (is_too_large limits) (only ∷ [])) limits (only ∷ []) states one in
            with_inner k (Branch graph root goals (Running id found NoState)) state states traced same m
            (inner_at_only only state (subst (λ (xs : List State). Among state xs) (sym all) m) tt)
        next_stays k (Branch graph root goals (Running id found (MoreStates first rest))) state states traced same m =
            let inner = MoreStates first rest in
            let one = unless_if (is_above limits (length graph)) limits (searched program limits graph root goals id found inner (stepped program limits inner)) states same in
            with_inner k (Branch graph root goals (Running id found inner)) state states traced same m
            (elim (after_level_is limits graph root goals id found (stepped program limits inner) states state one m) [
              | was_blocked is ↦ subst InnerTraced (sym is) tt
              | goes_on values next_states event is ↦ subst InnerTraced (sym is) (λ f args at.
                  all_traced (level_of levels f) next_states
                  (stepped_stays (level_of levels f) (MoreStates first rest) values next_states
                  (inner_of k graph root goals id found inner traced f args at) event))
            ])

        pub stepped_stays : (k : ℕ) (inner : States) (values : List Value) (states : List State) → AllTracedAt program limits levels k inner
            → stepped program limits inner ≡ On values states → (state : State) → Among state states → TracedAt program limits levels k state
        stepped_stays k NoState values states traced same state m =
            let none : [] ≡ states = cc in absurd (subst (λ (xs : List State). Among state xs) (sym none) m)
        stepped_stays k (MoreStates first rest) values states traced same state m =
            outcome_has (λ s. TracedAt program limits levels k s) (next program limits first) (stepped program limits rest) values states
            (λ prefix other is there. next_stays k first other prefix traced.0 is there)
            (λ vs more is other there. stepped_stays k rest vs more traced.1 is other there) same state m

      -- ---- runs and levels

      reached_by : (k : ℕ) (state : State) (onward : State → State) (event : Next)
          → ((after : State) → event ≡ Go (after ∷ []) → TracedAt program limits levels k (onward after)) → TracedAt program limits levels k state
          → TracedAt program limits levels k (elim (only_state event) as (λ x. State) [ Some after ↦ onward after | None ↦ state ])
      reached_by k state onward (Go (after ∷ [])) each traced = each after refl
      reached_by k state onward _ each traced = traced

      pub reached_stays : (k more : ℕ) (state : State) → TracedAt program limits levels k state → TracedAt program limits levels k (reached_on more program limits state)
      unfolding reached_on
      reached_stays k zero state traced = traced
      reached_stays k (suc more) state traced =
          reached_by k state (reached_on more program limits) (next program limits state)
          (λ after is. reached_stays k more after (next_stays k state after (after ∷ []) traced is (inl refl))) traced

      pub run_stays : (k more : ℕ) (before state : State) (states : List State) → TracedAt program limits levels k before → run_on more program limits before ≡ Go states
          → Among state states → TracedAt program limits levels k state
      run_stays k more before state states traced same m =
          next_stays k (reached_on more program limits before) state states (reached_stays k more before traced) (sym (run_reaches more program limits before) ∙ same) m

      follower_stays : (k : ℕ) (event : Next) (state : State) → ((states : List State) → event ≡ Go states → Among state states → TracedAt program limits levels k state)
          → Among state (go_list event) → TracedAt program limits levels k state
      follower_stays k (Go states) state each m = each states refl m
      follower_stays k _ state each m = absurd m

      level_stays : (k : ℕ) (event : State → Next) (start : State)
          → ((before state : State) (states : List State) → TracedAt program limits levels k before → event before ≡ Go states → Among state states → TracedAt program limits levels k state)
          → TracedAt program limits levels k start → (depth : ℕ) (state : State) → Among state (level_by event start depth) → TracedAt program limits levels k state
      unfolding level_by
      level_stays k event start each traced zero state m =
          elim m [ inl same ↦ subst (λ (s : State). TracedAt program limits levels k s) same traced | inr nowhere ↦ absurd nowhere ]
      level_stays k event start each traced (suc depth) state m =
          let found = among_flat (λ s. go_list (event s)) state (level_by event start depth) m in
          let before = level_stays k event start each traced depth found.0 found.1 in
          follower_stays k (event found.0) state (λ states is there. each found.0 state states before is there) found.2

      pub step_level_stays : (k depth : ℕ) (start state : State) → TracedAt program limits levels k start → Among state (step_level program limits start depth)
          → TracedAt program limits levels k state
      step_level_stays k depth start state traced m = level_stays k (next program limits) start (next_stays k) traced depth state m

      pub run_level_stays : (k stride depth : ℕ) (start state : State) → TracedAt program limits levels k start
          → Among state (level_by (run stride program limits) start depth) → TracedAt program limits levels k state
      run_level_stays k stride depth start state traced m = level_stays k (run stride program limits) start (run_stays k (stride - 1)) traced depth state m
