-- Steps, runs and levels of traced states are sound, and what is answered there follows from the
-- rules.
use Rattle.std.proofs.Common.{◌≡◌, ℕ, ◌-◌, ◌<◌, inl, inr, true, List, [], ◌∷◌, ◌++◌, refl, ap, sym, ◌∙◌, subst, length, map, append-nil}
use Rattle.std.specs.List.{list_any}
use Rattle.cu_calculus.specs.declared.FunId.{FunId}
use Rattle.cu_calculus.specs.Calls.{call_statement}
use Rattle.cu_calculus.specs.Claims.{level_of}
use Rattle.cu_calculus.specs.Code.{Code, body_of, is_rule}
use Rattle.cu_calculus.specs.FlatProgram.{program_of}
use Rattle.cu_calculus.specs.Gives.{Claim}
use Rattle.cu_calculus.specs.Proved.{IsProved}
use Rattle.cu_calculus.specs.Value.{Value, values_of}
use Rattle.cu_calculus.specs.WellFormed.{is_well_formed}
use Rattle.cu_calculus.proofs.CallStatements.{concludes_proved}
use Rattle.cu_calculus.proofs.FlatValid.{program_valid}
use Rattle.cu_machine.specs.declared.Kind.TheVariants as kind
use Rattle.cu_machine.specs.declared.Limits.{Limits}
use Rattle.cu_machine.specs.declared.SearchLimits.{SearchLimits}
use Rattle.cu_machine.specs.Among.{Among}
use Rattle.cu_machine.specs.Found.{Found}
use Rattle.cu_machine.specs.Graph.{Graph, Node, node_at, put, stuck}
use Rattle.cu_machine.specs.Level.{level}
use Rattle.cu_machine.specs.Next.{Answer, Go, Reading, delivered, is_above, is_too_large, next, searched, stepped}
use Rattle.cu_machine.specs.Run.{reached, reached_on, reading_at, run, run_on}
use Rattle.cu_machine.specs.Sort.{sorted}
use Rattle.cu_machine.specs.State.{Branch, Idle, MoreStates, NoState, Running, Search, State, graph_of, start_of}
use Rattle.cu_machine.specs.Steps.{node}
use Rattle.cu_machine.specs.Validity.{IsValid, NodesFit, are_built}
use Rattle.cu_machine.proofs.Runs.{answer_read, run_reaches}
use Rattle.cu_machine.proofs.Successors.{go_if, unless_if}
use Rattle.cu_laws.specs.AtLevel.{AreBelow, AreLevelsOf}
use Rattle.cu_laws.specs.Good.{Assignment, Good, claim_of}
use Rattle.cu_laws.specs.StepsBackward.{StepsBackward, claims_of_call, claims_of_end}
use Rattle.cu_laws.specs.Traced.{AreFound, TracedSearch, spelled_values}
use Rattle.cu_laws.specs.TracedAt.{TracedAt}
use Rattle.cu_laws.proofs.AnswersFollow.{begins, number_of}
use Rattle.cu_laws.proofs.AtLevel.{NodeAllowed, allowed_at}
use Rattle.cu_laws.proofs.CameFrom.{CameFrom, IsUnder, Keeps, all_built_ground, came_itself, ended_found, level_under, none_found, one_found, one_passes, reached_under, step_under}
use Rattle.cu_laws.proofs.Changed.{Sound}
use Rattle.cu_laws.proofs.FailureRows.{sticking_sound}
use Rattle.cu_laws.proofs.Follows.{idle_from}
use Rattle.cu_laws.proofs.Raising.{rises_itself}
use Rattle.cu_laws.proofs.Readings.{read_off, valid_reading}
use Rattle.cu_laws.proofs.SearchAnswers.{ConcludesByFinds, found_claims_of, state_concludes}
use Rattle.cu_laws.proofs.SetRow.{delivered_sound}
use Rattle.cu_laws.proofs.StaysTraced.{allowed_of, next_stays, search_of, start_traced, valid_of}
use Rattle.cu_laws.proofs.TracedStates.{after_level_is, goes_on, was_blocked}

-- ---- a search that has ended

-- what a search that has ended shows of the node at which it ran
record Ended (program : Code) (limits : Limits) (graph : Graph) (f : FunId) (args : List ℕ) (found : List Value) : Type 0 where
  finds : Found program limits f (spelled_values graph args) (sorted found)
  built : are_built program (spelled_values graph args) ≡ true

ended_at : (program : Code) (limits : Limits) (graph : Graph) (id : ℕ) (f : FunId) (args : List ℕ) (found : List Value) → NodesFit program graph
    → (traced : TracedSearch program limits graph id found NoState) → node_at graph id ≡ node (kind.SetCall f) args → Ended program limits graph f args found
ended_at program limits graph id f args found fit traced is =
    let nodes : node (kind.SetCall traced.function) traced.args ≡ node (kind.SetCall f) args = sym traced.node_is ∙ is in
    let kinds : kind.SetCall traced.function ≡ kind.SetCall f = ap (λ (n : Node). n.kind) nodes in
    let functions : traced.function ≡ f = cc in
    let same : traced.args ≡ args = ap (λ (n : Node). n.args) nodes in
    subst (λ (g : FunId). Ended program limits graph g args found) functions
    (subst (λ (us : List ℕ). Ended program limits graph traced.function us found) same
    (record { finds = ended_found program limits graph id found traced fit; built = traced.built }))

only_is : (only state : State) → Among state (only ∷ []) → only ≡ state
only_is only state (inl same) = same
only_is only state (inr nowhere) = absurd nowhere

module _ (program : Code) (limits : Limits) (levels : List ℕ) (k : ℕ) where
  set_call_below : (state : State) (id : ℕ) (f : FunId) (args : List ℕ) → TracedAt program limits levels k state → node_at (graph_of state) id ≡ node (kind.SetCall f) args
      → level_of levels f < k
  set_call_below state id f args traced is =
      (subst (λ (n : Node). NodeAllowed program levels k n) is (allowed_at program levels k (graph_of state) id (allowed_of program limits levels k state traced))).0

  -- ---- one step

  -- nothing more is claimed
  backward_alone : (claims : List Claim) (state : State) (later : Assignment) → Sound program claims (graph_of state) later
      → StepsBackward program limits levels k claims [] state later
  backward_alone claims state later sound = record {
    found = none_found program limits;
    below = none_below;
    earlier = sound.0;
    good = subst (λ (all : List Claim). Good program all (graph_of state) sound.0) (sym (append-nil claims)) sound.1;
    rises = sound.2;
  }
    where
      none_below : AreBelow levels k []
      none_below x claim at = let no : ⊥ = cc in absurd no

  pub ended_sound : (claims : List Claim) (graph : Graph) (root : ℕ) (goals : List ℕ) (id : ℕ) (f : FunId) (args : List ℕ) (found : List Value) (later : Assignment)
      → TracedAt program limits levels k (Branch graph root goals (Running id found NoState)) → node_at graph id ≡ node (kind.SetCall f) args
      → Good program claims (delivered program graph id found) later
      → Found program limits f (spelled_values graph args) (sorted found) × (level_of levels f < k)
      × Sound program (claims ++ claim_of f (spelled_values graph args) (sorted found) ∷ []) graph later
  unfolding IsValid
  ended_sound claims graph root goals id f args found later traced is good =
      let state = Branch graph root goals (Running id found NoState) in
      let valid = valid_of program limits levels k state traced in
      let ended = ended_at program limits graph id f args found valid.0.nodes (search_of program limits levels k state traced) is in (
        ended.finds,
        set_call_below state id f args traced is,
        delivered_sound program claims graph id f args found later valid.0.nodes is (all_built_ground program (spelled_values graph args) ended.built) good,
      )

  -- one row more is claimed of a state whose search has ended
  ended_backward : (claims : List Claim) (graph : Graph) (root : ℕ) (goals : List ℕ) (id : ℕ) (found : List Value) (later : Assignment)
      → TracedAt program limits levels k (Branch graph root goals (Running id found NoState)) → Good program claims (delivered program graph id found) later
      → StepsBackward program limits levels k claims (claims_of_end (Branch graph root goals (Running id found NoState))) (Branch graph root goals (Running id found NoState)) later
  ended_backward claims graph root goals id found later traced good =
      let state = Branch graph root goals (Running id found NoState) in
      let search = search_of program limits levels k state traced in
      let f = search.function in
      let args = search.args in
      let claim = claim_of f (spelled_values graph args) (sorted found) in
      let ended = ended_sound claims graph root goals id f args found later traced search.node_is good in
      let row : claims_of_end state ≡ claim ∷ [] = ap (λ (n : Node). claims_of_call graph n.kind n.args found) search.node_is in
      subst (λ (further : List Claim). StepsBackward program limits levels k claims further state later) (sym row) (record {
        found = one_found program limits claim ended.0;
        below = one_passes (λ g. level_of levels g < k) claim ended.1;
        earlier = ended.2.0;
        good = ended.2.1;
        rises = ended.2.2;
      })

  module _ (well : is_well_formed program ≡ true) where
    pub step_backward : (claims : List Claim) (before state : State) (states : List State) (later : Assignment) → TracedAt program limits levels k before
        → next program limits before ≡ Go states → Among state states → Good program claims (graph_of state) later
        → StepsBackward program limits levels k claims (claims_of_end before) before later
    unfolding next
    step_backward claims (Branch graph root goals Idle) state states later traced same m good =
        let before = Branch graph root goals Idle in
        backward_alone claims before later
        ((idle_from program claims limits well graph root goals states state (valid_of program limits levels k before traced) same m).backward later good)
    step_backward claims (Branch graph root goals (Running id found NoState)) state states later traced same m good =
        let only = Branch (delivered program graph id found) root goals Idle in
        let one = unless_if (is_above limits (length graph)) limits (searched program limits graph root goals id found NoState (stepped program limits NoState)) states same in
        let all : only ∷ [] ≡ states = go_if (list_any (is_too_large limits) (only ∷ [])) limits (only ∷ []) states one in
        let is : only ≡ state = only_is only state (subst (λ (xs : List State). Among state xs) (sym all) m) in
        ended_backward claims graph root goals id found later traced (subst (λ (s : State). Good program claims (graph_of s) later) (sym is) good)
    step_backward claims (Branch graph root goals (Running id found (MoreStates first rest))) state states later traced same m good =
        let inner = MoreStates first rest in
        let before = Branch graph root goals (Running id found inner) in
        let search = search_of program limits levels k before traced in
        let one = unless_if (is_above limits (length graph)) limits (searched program limits graph root goals id found inner (stepped program limits inner)) states same in
        backward_alone claims before later (elim (after_level_is limits graph root goals id found (stepped program limits inner) states state one m) [
          | was_blocked is ↦
              sticking_sound program claims graph (put graph id stuck) id (kind.SetCall search.function) search.args later search.node_is refl refl
              (subst (λ (s : State). Good program claims (graph_of s) later) is good)
          | goes_on values next_states event is ↦
              let kept : Good program claims graph later = subst (λ (s : State). Good program claims (graph_of s) later) is good in (later, kept, rises_itself later)
        ])

    module _ (are : AreLevelsOf program levels) where
      -- ---- runs and levels

      abbrev IsLow : FunId → Type 0
      IsLow f = level_of levels f < k

      keeps_traced : Keeps program limits IsLow (TracedAt program limits levels k)
      keeps_traced = record {
        next = λ before state states valid kept same m. next_stays program limits levels well are k before state states kept same m;
        passes = λ state kept id f args is. set_call_below state id f args kept is;
      }

      under_itself : (start : State) → TracedAt program limits levels k start → IsUnder program limits IsLow (TracedAt program limits levels k) start start
      under_itself start traced = record {
        valid = valid_of program limits levels k start traced;
        traced = search_of program limits levels k start traced;
        kept = traced;
        came = came_itself program limits IsLow start;
      }

      backward_from : (claims : List Claim) (before state : State) (later : Assignment) → CameFrom program limits IsLow before state → Good program claims (graph_of state) later
          → (further : List Claim) × StepsBackward program limits levels k claims further before later
      backward_from claims before state later came good =
          let carried = came.backward claims later good in (
            carried.further,
            record { found = carried.found; below = carried.passing; earlier = carried.sound.0; good = carried.sound.1; rises = carried.sound.2 },
          )

      reached_from : (more : ℕ) (state : State) → TracedAt program limits levels k state
          → IsUnder program limits IsLow (TracedAt program limits levels k) state (reached_on more program limits state)
      reached_from more state traced =
          reached_under program limits IsLow (TracedAt program limits levels k) state well keeps_traced more state (under_itself state traced)

      pub reached_backward : (more : ℕ) (claims : List Claim) (state : State) (later : Assignment) → TracedAt program limits levels k state
          → Good program claims (graph_of (reached_on more program limits state)) later → (further : List Claim) × StepsBackward program limits levels k claims further state later
      reached_backward more claims state later traced good = backward_from claims state (reached_on more program limits state) later (reached_from more state traced).came good

      pub run_backward : (more : ℕ) (claims : List Claim) (before state : State) (states : List State) (later : Assignment) → TracedAt program limits levels k before
          → run_on more program limits before ≡ Go states → Among state states → Good program claims (graph_of state) later
          → (further : List Claim) × StepsBackward program limits levels k claims further before later
      run_backward more claims before state states later traced same m good =
          let last = reached_on more program limits before in
          let at = step_under program limits IsLow (TracedAt program limits levels k) before well keeps_traced last state states (reached_from more before traced)
          (sym (run_reaches more program limits before) ∙ same) m in
          backward_from claims before state later at.came good

-- ---- levels by the stride, and answers

module _ (program : Code) (limits : SearchLimits) (levels : List ℕ) (well : is_well_formed program ≡ true) (are : AreLevelsOf program levels) where
  pub level_backward : (k depth : ℕ) (claims : List Claim) (start state : State) (later : Assignment) → TracedAt program limits.step levels k start
      → Among state (level program limits start depth) → Good program claims (graph_of state) later
      → (further : List Claim) × StepsBackward program limits.step levels k claims further start later
  level_backward k depth claims start state later traced m good =
      let keeps = keeps_traced program limits.step levels k well are in
      let on = under_itself program limits.step levels k well are start traced in
      let at = level_under program limits (λ f. level_of levels f < k) (TracedAt program limits.step levels k) start well keeps on depth state m in
      backward_from program limits.step levels k well are claims start state later at.came good

  pub answer_concludes : (goal : FunId) (depth : ℕ) (state : State) (reading : Reading) → is_rule (body_of program goal) ≡ true
      → Among state (level program limits (start_of program goal) depth) → run limits.stride program limits.step state ≡ Answer reading
      → ConcludesByFinds program limits.step (λ f. level_of levels f < level_of levels goal) goal reading
  answer_concludes goal depth state reading rule m answers =
      let k = level_of levels goal in
      let start = start_of program goal in
      let begun = begins program goal well rule in
      let low = λ (f : FunId). level_of levels f < k in
      let keep = TracedAt program limits.step levels k in
      let keeps = keeps_traced program limits.step levels k well are in
      let on = under_itself program limits.step levels k well are start (start_traced program limits.step levels well goal rule) in
      let at_state = level_under program limits low keep start well keeps on depth state m in
      let last = reached limits.stride program limits.step state in
      let at_last = reached_under program limits.step low keep start well keeps (limits.stride - 1) state at_state in
      let read_is : reading ≡ reading_at last =
      answer_read program limits.step last reading (sym (run_reaches (limits.stride - 1) program limits.step state) ∙ answers) in
      subst (λ (r : Reading). ConcludesByFinds program limits.step low goal r) (sym read_is)
      (state_concludes program limits.step low goal begun.n last well rule begun.arity at_last.valid
      (subst (λ (s : State). CameFrom program limits.step low s last) begun.start_is at_last.came))

  pub answer_proved : (goal : FunId) (depth : ℕ) (state : State) (reading : Reading) → is_rule (body_of program goal) ≡ true
      → Among state (level program limits (start_of program goal) depth) → run limits.stride program limits.step state ≡ Answer reading
      → (claims : List Claim) × AreFound program limits.step claims × AreBelow levels (level_of levels goal) claims
      × IsProved (program_of program) claims (call_statement goal (values_of reading.bindings) reading.value)
  answer_proved goal depth state reading rule m answers =
      let found = answer_concludes goal depth state reading rule m answers in (
        found.0,
        found.1,
        found.2,
        concludes_proved (program_of program) found.0 goal (values_of reading.bindings) reading.value (program_valid program well)
            (found_claims_of program limits.step found.0 well found.1) found.3,
      )

-- what a traced state answers is read off a good assignment of its graph
pub answer_good : (program : Code) (limits : Limits) (levels : List ℕ) (k : ℕ) (graph : Graph) (root : ℕ) (goals : List ℕ) (search : Search) (reading : Reading)
    → TracedAt program limits levels k (Branch graph root goals search) → next program limits (Branch graph root goals search) ≡ Answer reading
    → (assigned : Assignment) × Good program [] graph assigned × (map assigned goals ≡ reading.bindings) × (assigned root ≡ reading.value)
answer_good program limits levels k graph root goals search reading traced answers =
    let state = Branch graph root goals search in
    let number = number_of graph root goals in
    let is : reading ≡ reading_at state = answer_read program limits state reading answers in (
      read_off number graph,
      valid_reading program [] graph root goals search number (valid_of program limits levels k state traced),
      sym (ap (λ (r : Reading). r.bindings) is),
      sym (ap (λ (r : Reading). r.value) is),
    )
