-- What an inner search answers, the function that is called has on the arguments.
use Rattle.std.proofs.Common.{◌≡◌, ℕ, zero, suc, ◌+◌, ◌<◌, inl, inr, true, List, [], ◌∷◌, ◌++◌, Option, None, Some, refl, ap, sym, ◌∙◌, subst, length, eq-eqb, arith, length-append, get_or-append-add}
use Rattle.std.proofs.lemmas.List.{get_or_append_left}
use Rattle.cu_calculus.specs.declared.FunId.{FunId}
use Rattle.cu_calculus.specs.declared.Head.TheVariants as head
use Rattle.cu_calculus.specs.declared.builtin.Primitive.TheVariants as prim
use Rattle.cu_calculus.specs.Below.{AllBelow, Below}
use Rattle.cu_calculus.specs.Claims.{Concludes, level_of}
use Rattle.cu_calculus.specs.Code as code
use Rattle.cu_calculus.specs.Code.{Code, body_of, function_arity}
use Rattle.cu_calculus.specs.FlatProgram.{program_of}
use Rattle.cu_calculus.specs.Gives.{Applied, Claim}
use Rattle.cu_calculus.specs.Program.{arity_in}
use Rattle.cu_calculus.specs.Shape.{takes}
use Rattle.cu_calculus.specs.Value.{Value, Values, count}
use Rattle.cu_calculus.specs.WellFormed.{is_well_formed}
use Rattle.cu_calculus.proofs.BelowLaws.{below_trans}
use Rattle.cu_calculus.proofs.FlatFitting.{arity_kept}
use Rattle.cu_machine.specs.declared.Limits.{Limits}
use Rattle.cu_machine.specs.Among.{Among}
use Rattle.cu_machine.specs.Build.{kind_of_call}
use Rattle.cu_machine.specs.Graph.{Node, node_at, stuck}
use Rattle.cu_machine.specs.Level.{go_list, level_by, step_level}
use Rattle.cu_machine.specs.Next.{Answer, Reading, next}
use Rattle.cu_machine.specs.Run.{reading_at}
use Rattle.cu_machine.specs.Spell.{push_values}
use Rattle.cu_machine.specs.State.{Branch, State, call_on, graph_of}
use Rattle.cu_machine.specs.Steps.{node}
use Rattle.cu_machine.specs.Validity.{are_built}
use Rattle.cu_machine.proofs.Levels.{among_flat}
use Rattle.cu_machine.proofs.Runs.{answer_read}
use Rattle.cu_machine.proofs.Searches.{all_built_fit}
use Rattle.cu_machine.proofs.Starts.{call_on_valid}
use Rattle.cu_laws.specs.AtLevel.{AreBelow, AreLevelsOf}
use Rattle.cu_laws.specs.Good.{Assignment, AtMost, Good, MayHave, NoValue}
use Rattle.cu_laws.specs.Traced.{AreFound}
use Rattle.cu_laws.proofs.AnswersFollow.{applied_concludes, number_of}
use Rattle.cu_laws.proofs.AtLevel.{NodeAllowed, NodesAllowed, nodes_both}
use Rattle.cu_laws.proofs.Built.{all_may_from, call_worth}
use Rattle.cu_laws.proofs.CameFrom.{IsUnder, came_itself, follows_under}
use Rattle.cu_laws.proofs.Heads.{values_at}
use Rattle.cu_laws.proofs.LevelStates.{StateAllowed, keeps_level, values_allowed}
use Rattle.cu_laws.proofs.Readings.{read_off, valid_reading}
use Rattle.cu_laws.proofs.Rising.{applied_rises}
use Rattle.cu_laws.proofs.SearchAnswers.{all_built_of}
use Rattle.cu_laws.proofs.SetRow.{values_low}
use Rattle.cu_laws.proofs.Truth.{under_bottom}

-- ---- good assignments of the first state

-- what a function gives on values that say less it gives, or more, on the others
at_most_above : (program : Code) (claims : List Claim) (f : FunId) (us vs : Values) (u v : Value) → AllBelow us vs → Below v u
    → AtMost (Applied (program_of program) claims (head.Fun f) us) u → AtMost (Applied (program_of program) claims (head.Fun f) vs) v
at_most_above program claims f us vs u v low small (inl none) = inl (under_bottom v (subst (λ (x : Value). Below v x) none small))
at_most_above program claims f us vs u v low small (inr found) =
    let more = applied_rises (program_of program) claims (head.Fun f) us vs found.0 found.1 low in
    inr (more.0, more.1, below_trans v u more.0 small (below_trans u found.0 more.0 found.2 more.2))

-- a good assignment of a call's graph: the function has what it gives the root
call_concludes : (program : Code) (claims : List Claim) (f : FunId) (arguments : Values) (assigned : Assignment) (v : Value)
    → function_arity program f ≡ Some (count arguments) → are_built program arguments ≡ true → Good program claims (graph_of (call_on program f arguments)) assigned
    → Below v (assigned (length (push_values 0 arguments).nodes)) → Concludes (program_of program) claims f arguments v
call_concludes program claims f arguments assigned v arity built good small =
    let P = program_of program in
    let parts = push_values 0 arguments in
    let nodes = parts.nodes in
    let call : Node = record { kind = kind_of_call f (body_of program f); args = parts.ids } in
    let graph = nodes ++ call ∷ [] in
    let long = length-append nodes (call ∷ []) in
    let root = length nodes in
    let last : root + 0 ≡ root = omega arith in
    let call_is : node_at graph root ≡ call = ap (node_at graph) (sym last) ∙ get_or-append-add nodes (call ∷ []) 0 stuck in
    let may : MayHave NoValue program claims assigned (kind_of_call f (body_of program f)) parts.ids (assigned root) =
    subst (λ (n : Node). MayHave NoValue program claims assigned n.kind n.args (assigned root)) call_is (good.each root (omega arith)) in
    let pushed = all_may_from program claims assigned good.of_program nodes 0 (λ i below. each i below) in
    let low = values_low program claims assigned good.of_program 0 arguments pushed in
    let worth = call_worth program claims assigned f parts.ids (assigned root) (body_of program f) refl may in
    let whole : takes (arity_in P (head.Fun f)) (count arguments) ≡ true =
    ap (λ (o : Option ℕ). takes o (count arguments)) (arity_kept program (head.Fun f) ∙ arity) ∙ eq-eqb (count arguments) (count arguments) refl in
    applied_concludes P claims f arguments v whole (all_built_of program arguments built)
    (at_most_above program claims f (values_at assigned parts.ids) arguments (assigned root) v low small worth)
  where
    each : (i : ℕ) → i < length (push_values 0 arguments).nodes
        → MayHave NoValue program claims assigned (node_at (push_values 0 arguments).nodes i).kind (node_at (push_values 0 arguments).nodes i).args (assigned (0 + i))
    each i below =
        let nodes = (push_values 0 arguments).nodes in
        let call : Node = record { kind = kind_of_call f (body_of program f); args = (push_values 0 arguments).ids } in
        let long = length-append nodes (call ∷ []) in
        let same : 0 + i ≡ i = omega arith in
        subst (λ (j : ℕ). MayHave NoValue program claims assigned (node_at nodes i).kind (node_at nodes i).args (assigned j)) (sym same)
        (subst (λ (n : Node). MayHave NoValue program claims assigned n.kind n.args (assigned i)) (get_or_append_left nodes (call ∷ []) stuck i below)
        (good.each i (omega arith)))

-- ---- levels of an inner search

call_allowed : (program : Code) (levels : List ℕ) (f : FunId) (arguments : Values) → are_built program arguments ≡ true
    → NodesAllowed program levels (level_of levels f) (graph_of (call_on program f arguments))
call_allowed program levels f arguments built =
    let parts = push_values 0 arguments in
    nodes_both program levels (level_of levels f) parts.nodes (node (kind_of_call f (body_of program f)) parts.ids ∷ [])
    (values_allowed program levels (level_of levels f) 0 arguments built) (call (body_of program f) parts.ids, tt)
  where
    call : (body : Option code.Body) (args : List ℕ) → NodeAllowed program levels (level_of levels f) (node (kind_of_call f body) args)
    call None args = tt
    call (Some (code.Rule params body)) args = (omega arith, tt)
    call (Some (code.External prim.Failed)) args = tt
    call (Some (code.External operation)) args = tt

-- a function has a value over claims of functions of lower levels, each of which a search finds
abbrev pub ConcludesBelow : Code → Limits → List ℕ → FunId → Values → Value → Type 0
ConcludesBelow program limits levels f arguments v =
    (claims : List Claim) × AreFound program limits claims × AreBelow levels (level_of levels f) claims × Concludes (program_of program) claims f arguments v

module _ (program : Code) (limits : Limits) (levels : List ℕ) (f : FunId) (arguments : Values) (well : is_well_formed program ≡ true) (are : AreLevelsOf program levels)
    (arity : function_arity program f ≡ Some (count arguments)) (built : are_built program arguments ≡ true) where
  abbrev UnderStart : State → Type 0
  UnderStart state =
      IsUnder program limits (λ g. level_of levels g < level_of levels f) (StateAllowed program levels (level_of levels f)) (call_on program f arguments) state

  at_start : UnderStart (call_on program f arguments)
  at_start = record {
    valid = call_on_valid program f arguments well (ap (λ (o : Option ℕ). takes o (count arguments)) arity ∙ eq-eqb (count arguments) (count arguments) refl)
        (all_built_fit program arguments built);
    traced = tt;
    kept = call_allowed program levels f arguments built;
    came = came_itself program limits (λ g. level_of levels g < level_of levels f) (call_on program f arguments);
  }

  pub inner_under : (depth : ℕ) (state : State) → Among state (step_level program limits (call_on program f arguments) depth) → UnderStart state
  unfolding level_by
  inner_under zero state m = elim m [ inl same ↦ subst UnderStart same at_start | inr nowhere ↦ absurd nowhere ]
  inner_under (suc depth) state m =
      let found = among_flat (λ s. go_list (next program limits s)) state (level_by (next program limits) (call_on program f arguments) depth) m in
      follows_under program limits (λ g. level_of levels g < level_of levels f) (StateAllowed program levels (level_of levels f)) (call_on program f arguments) well
      (keeps_level program levels (level_of levels f) limits well are) found.0 state (inner_under depth found.0 found.1) (next program limits found.0) refl found.2

  state_concludes : (state : State) → UnderStart state → ConcludesBelow program limits levels f arguments (reading_at state).value
  state_concludes (Branch graph root goals search) on =
      let number = number_of graph root goals in
      let later = read_off number graph in
      let carried = on.came.backward [] later (valid_reading program [] graph root goals search number on.valid) in
      let small : Below (later root) (carried.sound.0 root) = carried.sound.2 root in (
        carried.further,
        carried.found,
        carried.passing,
        call_concludes program carried.further f arguments carried.sound.0 (later root) arity built carried.sound.1
            (subst (λ (x : ℕ). Below (later root) (carried.sound.0 x)) on.came.roots small),
      )

  -- what an inner search answers the function has, over what lower ones find
  pub answer_concludes : (depth : ℕ) (state : State) (reading : Reading) → Among state (step_level program limits (call_on program f arguments) depth)
      → next program limits state ≡ Answer reading → ConcludesBelow program limits levels f arguments reading.value
  answer_concludes depth state reading m same =
      subst (λ (r : Reading). ConcludesBelow program limits levels f arguments r.value) (sym (answer_read program limits state reading same))
      (state_concludes state (inner_under depth state m))
