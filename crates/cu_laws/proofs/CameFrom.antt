-- From a state back to the one that it follows, also where searches for all values run: where one
-- ended, its claim is added.
use Rattle.std.proofs.Common.{◌≡◌, ℕ, zero, suc, ◌+◌, ◌-◌, inl, inr, true, ◌&&◌, List, [], ◌∷◌, ◌++◌, Option, None, Some, refl, ap, sym, ◌∙◌, subst, length, map, eqb-true, true≢false, arith, append-nil, slice_get}
use Rattle.std.specs.Prelude.{flat_map}
use Rattle.std.specs.List.{list_all, list_any}
use Rattle.std.proofs.lemmas.Bool.{and_from, and_parts, cases_lt}
use Rattle.std.proofs.lemmas.List.{append_assoc}
use Rattle.cu_calculus.specs.declared.FunId.{FunId}
use Rattle.cu_calculus.specs.declared.Head.TheVariants as head
use Rattle.cu_calculus.specs.Code.{Code, arity_of, function_arity}
use Rattle.cu_calculus.specs.Gives.{Claim}
use Rattle.cu_calculus.specs.Shape.{are_ground, is_ground, takes}
use Rattle.cu_calculus.specs.Value as value
use Rattle.cu_calculus.specs.Value.{Value, Values, count, values_of}
use Rattle.cu_calculus.specs.WellFormed.{is_allowed, is_well_formed}
use Rattle.cu_machine.specs.declared.Kind.TheVariants as kind
use Rattle.cu_machine.specs.declared.Limits.{Limits}
use Rattle.cu_machine.specs.declared.SearchLimits.{SearchLimits}
use Rattle.cu_machine.specs.Among.{Among}
use Rattle.cu_machine.specs.Found.{Found, is_quiet}
use Rattle.cu_machine.specs.Graph.{Graph, Node, put, stuck, node_at}
use Rattle.cu_machine.specs.Level.{go_list, level, level_by, step_level}
use Rattle.cu_machine.specs.Next.{Go, Next, delivered, is_above, is_too_large, next, searched, stepped}
use Rattle.cu_machine.specs.Run.{only_state, reached_on, run}
use Rattle.cu_machine.specs.Sort.{sorted}
use Rattle.cu_machine.specs.State.{Branch, Idle, MoreStates, NoState, Running, State, call_on, graph_of, states_of}
use Rattle.cu_machine.specs.Steps.{node}
use Rattle.cu_machine.specs.Validity.{IsValid, NodesFit, are_built, has_arguments, is_built}
use Rattle.cu_machine.proofs.Levels.{among_flat}
use Rattle.cu_machine.proofs.Runs.{run_reaches}
use Rattle.cu_machine.proofs.Searches.{follows_valid}
use Rattle.cu_machine.proofs.Successors.{go_if, unless_if}
use Rattle.cu_laws.specs.Good.{Assignment, Good, claim_of}
use Rattle.cu_laws.specs.Promises.{goals_of, root_of}
use Rattle.cu_laws.specs.Traced.{AreFound, IsTraced, TracedSearch, spelled_values}
use Rattle.cu_laws.proofs.Changed.{Sound}
use Rattle.cu_laws.proofs.FailureRows.{sticking_sound}
use Rattle.cu_laws.proofs.Follows.{idle_from}
use Rattle.cu_laws.proofs.Heads.{count_at}
use Rattle.cu_laws.proofs.Raising.{rises_itself, rises_trans, there_unless_stuck}
use Rattle.cu_laws.proofs.SetRow.{delivered_sound}
use Rattle.cu_laws.proofs.TracedStates.{goes_on, after_level_is, next_traced, was_blocked}
use Rattle.cu_machine.specs.Spell.{spelled}

-- ---- claims that are added

pub record Carried (program : Code) (limits : Limits) (P : FunId → Type 0) (claims : List Claim) (graph : Graph) (later : Assignment) : Type 0 where
  pub further : List Claim
  pub found : AreFound program limits further
  pub passing : (k : ℕ) (claim : Claim) → slice_get further k ≡ Some claim → P claim.function
  pub sound : Sound program (claims ++ further) graph later

pub record CameFrom (program : Code) (limits : Limits) (P : FunId → Type 0) (before state : State) : Type 0 where
  pub roots : root_of state ≡ root_of before
  pub goals : goals_of state ≡ goals_of before
  pub backward : (claims : List Claim) (later : Assignment) → Good program claims (graph_of state) later → Carried program limits P claims (graph_of before) later

pub none_found : (program : Code) (limits : Limits) → AreFound program limits []
none_found program limits k claim at = let no : ⊥ = cc in absurd no

both_found : (program : Code) (limits : Limits) (one two : List Claim) → AreFound program limits one → AreFound program limits two → AreFound program limits (one ++ two)
both_found program limits [] two first second k claim at = second k claim at
both_found program limits (row ∷ one) two first second zero claim at = first 0 claim at
both_found program limits (row ∷ one) two first second (suc k) claim at =
    both_found program limits one two (λ m other is. first (suc m) other is) second k claim at

none_there : (k : ℕ) (claim : Claim) → slice_get [] k ≡ Some claim → ⊥
none_there k claim at = cc

both_pass : (P : FunId → Type 0) (one two : List Claim) → ((k : ℕ) (claim : Claim) → slice_get one k ≡ Some claim → P claim.function)
    → ((k : ℕ) (claim : Claim) → slice_get two k ≡ Some claim → P claim.function) → (k : ℕ) (claim : Claim) → slice_get (one ++ two) k ≡ Some claim → P claim.function
both_pass P [] two first second k claim at = second k claim at
both_pass P (row ∷ one) two first second zero claim at = first 0 claim at
both_pass P (row ∷ one) two first second (suc k) claim at = both_pass P one two (λ m other is. first (suc m) other is) second k claim at

carried_alone : (program : Code) (limits : Limits) (P : FunId → Type 0) (claims : List Claim) (graph : Graph) (later : Assignment) → Sound program claims graph later
    → Carried program limits P claims graph later
carried_alone program limits P claims graph later sound = record {
  further = [];
  found = none_found program limits;
  passing = λ k claim at. absurd (none_there k claim at);
  sound = subst (λ (all : List Claim). Sound program all graph later) (sym (append-nil claims)) sound;
}

pub came_itself : (program : Code) (limits : Limits) (P : FunId → Type 0) (state : State) → CameFrom program limits P state state
came_itself program limits P state = record {
  roots = refl;
  goals = refl;
  backward = λ claims later good. carried_alone program limits P claims (graph_of state) later (later, good, rises_itself later);
}

pub came_both : (program : Code) (limits : Limits) (P : FunId → Type 0) (one two three : State) → CameFrom program limits P one two → CameFrom program limits P two three
    → CameFrom program limits P one three
came_both program limits P one two three first second = record {
  roots = second.roots ∙ first.roots;
  goals = second.goals ∙ first.goals;
  backward = λ claims later good.
      let middle = second.backward claims later good in
      let found = first.backward (claims ++ middle.further) middle.sound.0 middle.sound.1 in
      record {
        further = middle.further ++ found.further;
        found = both_found program limits middle.further found.further middle.found found.found;
        passing = both_pass P middle.further found.further middle.passing found.passing;
        sound = subst (λ (all : List Claim). Sound program all (graph_of one) later) (append_assoc claims middle.further found.further)
            (found.sound.0, found.sound.1, rises_trans later middle.sound.0 found.sound.0 middle.sound.2 found.sound.2);
      };
}

-- ---- a search that ended

mutual
  pub built_ground : (program : Code) (v : Value) → is_built program v ≡ true → is_ground v ≡ true
  built_ground program value.Bottom built = built
  built_ground program (value.Variable x) built = built
  built_ground program (value.Literal l) built = refl
  built_ground program (value.Constructed c vs) built =
      all_built_ground program vs (and_parts (takes (arity_of program (head.Con c)) (count vs)) (are_built program vs) built).1
  built_ground program (value.Partial h vs) built = built

  pub all_built_ground : (program : Code) (vs : Values) → are_built program vs ≡ true → are_ground vs ≡ true
  all_built_ground program value.NoValue built = refl
  all_built_ground program (value.MoreValues v vs) built =
      let parts = and_parts (is_built program v) (are_built program vs) built in
      and_from (is_ground v) (are_ground vs) (built_ground program v parts.0) (all_built_ground program vs parts.1)

no_states : (states : List State) → NoState ≡ states_of states → states ≡ []
no_states [] same = refl
no_states (state ∷ states) same = let no : ⊥ = cc in absurd no

-- a level that is empty stays so
empty_on : (program : Code) (limits : Limits) (start : State) (depth more : ℕ) → step_level program limits start depth ≡ [] → step_level program limits start (more + depth) ≡ []
unfolding level_by
empty_on program limits start depth zero none = let same : 0 + depth ≡ depth = omega arith in ap (step_level program limits start) same ∙ none
empty_on program limits start depth (suc more) none =
    let same : suc more + depth ≡ suc (more + depth) = omega arith in
    ap (step_level program limits start) same ∙ ap (flat_map (λ s. go_list (next program limits s))) (empty_on program limits start depth more none)

pub takes_is : (o : Option ℕ) (n : ℕ) → takes o n ≡ true → o ≡ Some n
takes_is None n whole = absurd (true≢false (sym whole))
takes_is (Some arity) n whole = ap Some (eqb-true arity n whole)

pub ended_found : (program : Code) (limits : Limits) (graph : Graph) (id : ℕ) (found : List Value) (traced : TracedSearch program limits graph id found NoState)
    → NodesFit program graph → Found program limits traced.function (spelled_values graph traced.args) (sorted found)
ended_found program limits graph id found traced fit =
    let f = traced.function in
    let arguments = spelled_values graph traced.args in
    let start = call_on program f arguments in
    let ended : step_level program limits start traced.depth ≡ [] = no_states (step_level program limits start traced.depth) traced.level_is in
    let here = there_unless_stuck graph id (kind.SetCall f) traced.args traced.node_is refl in
    let whole : (is_allowed program (head.Set f) && takes (function_arity program f) (length traced.args)) ≡ true =
    subst (λ (n : Node). has_arguments program n.kind (length n.args) ≡ true) traced.node_is (fit id here) in
    let arity : function_arity program f ≡ Some (length traced.args) =
    takes_is (function_arity program f) (length traced.args) (and_parts (is_allowed program (head.Set f)) (takes (function_arity program f) (length traced.args)) whole).1 in
    record {
      whole = arity ∙ ap Some (sym (count_at (spelled graph) traced.args));
      built = traced.built;
      depth = traced.depth;
      ended = ended;
      quiet = λ k. elim (cases_lt k traced.depth) [
        | inl less ↦ traced.quiet k less
        | inr past ↦
            let is : (k - traced.depth) + traced.depth ≡ k = omega arith in
            ap (λ (states : List State). list_all is_quiet (map (next program limits) states))
            (ap (step_level program limits start) (sym is) ∙ empty_on program limits start traced.depth (k - traced.depth) ended)
      ];
      collected = ap sorted traced.found_is;
    }

pub one_found : (program : Code) (limits : Limits) (claim : Claim) → Found program limits claim.function claim.arguments claim.values → AreFound program limits (claim ∷ [])
one_found program limits claim found zero other at =
    let same : claim ≡ other = cc in subst (λ (c : Claim). Found program limits c.function c.arguments c.values) same found
one_found program limits claim found (suc k) other at = let no : ⊥ = cc in absurd no

pub one_passes : (P : FunId → Type 0) (claim : Claim) → P claim.function → (k : ℕ) (other : Claim) → slice_get (claim ∷ []) k ≡ Some other → P other.function
one_passes P claim passes zero other at = let same : claim ≡ other = cc in subst (λ (c : Claim). P c.function) same passes
one_passes P claim passes (suc k) other at = let no : ⊥ = cc in absurd no

-- ---- one step

came_at : (program : Code) (limits : Limits) (P : FunId → Type 0) (before only state : State) → Among state (only ∷ []) → CameFrom program limits P before only → CameFrom program limits P before state
came_at program limits P before only state (inl same) came = subst (λ (s : State). CameFrom program limits P before s) same came
came_at program limits P before only state (inr nowhere) came = absurd nowhere

delivered_came : (program : Code) (limits : Limits) (P : FunId → Type 0) (graph : Graph) (root : ℕ) (goals : List ℕ) (id : ℕ) (found : List Value) → NodesFit program graph
    → (traced : TracedSearch program limits graph id found NoState) → P traced.function
    → CameFrom program limits P (Branch graph root goals (Running id found NoState)) (Branch (delivered program graph id found) root goals Idle)
delivered_came program limits P graph root goals id found fit traced passes = record {
  roots = refl;
  goals = refl;
  backward = λ claims later good.
      let claim = claim_of traced.function (spelled_values graph traced.args) (sorted found) in
      record {
        further = claim ∷ [];
        found = one_found program limits claim (ended_found program limits graph id found traced fit);
        passing = one_passes P claim passes;
        sound = delivered_sound program claims graph id traced.function traced.args found later fit traced.node_is
            (all_built_ground program (spelled_values graph traced.args) traced.built) good;
      };
}

pub next_came : (program : Code) (limits : Limits) (P : FunId → Type 0) (before state : State) (states : List State) → is_well_formed program ≡ true → IsValid program before
    → IsTraced program limits before → ((id : ℕ) (f : FunId) (args : List ℕ) → node_at (graph_of before) id ≡ node (kind.SetCall f) args → P f)
    → next program limits before ≡ Go states → Among state states → CameFrom program limits P before state
unfolding next IsValid
next_came program limits P (Branch graph root goals Idle) state states well valid traced sets same m =
    let comes = λ (claims : List Claim). idle_from program claims limits well graph root goals states state valid same m in
    record {
      roots = (comes []).roots;
      goals = (comes []).goals;
      backward = λ claims later good. carried_alone program limits P claims graph later ((comes claims).backward later good);
    }
next_came program limits P (Branch graph root goals (Running id found NoState)) state states well valid traced sets same m =
    let only = Branch (delivered program graph id found) root goals Idle in
    let one = unless_if (is_above limits (length graph)) limits (searched program limits graph root goals id found NoState (stepped program limits NoState)) states same in
    let all : only ∷ [] ≡ states = go_if (list_any (is_too_large limits) (only ∷ [])) limits (only ∷ []) states one in
    came_at program limits P (Branch graph root goals (Running id found NoState)) only state (subst (λ (xs : List State). Among state xs) (sym all) m)
    (delivered_came program limits P graph root goals id found valid.0.nodes traced (sets id traced.function traced.args traced.node_is))
next_came program limits P (Branch graph root goals (Running id found (MoreStates first rest))) state states well valid traced sets same m =
    let level = MoreStates first rest in
    let before = Branch graph root goals (Running id found level) in
    let one = unless_if (is_above limits (length graph)) limits (searched program limits graph root goals id found level (stepped program limits level)) states same in
    elim (after_level_is limits graph root goals id found (stepped program limits level) states state one m) [
      | was_blocked is ↦ subst (λ (s : State). CameFrom program limits P before s) (sym is) (record {
        roots = refl;
        goals = refl;
        backward = λ claims later good. carried_alone program limits P claims graph later
            (sticking_sound program claims graph (put graph id stuck) id (kind.SetCall traced.function) traced.args later traced.node_is refl refl good);
      })
      | goes_on values next_states event is ↦ subst (λ (s : State). CameFrom program limits P before s) (sym is) (record {
        roots = refl;
        goals = refl;
        backward = λ claims later good. carried_alone program limits P claims graph later (later, good, rises_itself later);
      })
    ]

-- ---- runs and levels

-- What is kept of each state: by it every set function that is called there passes.
pub record Keeps (program : Code) (limits : Limits) (P : FunId → Type 0) (Keep : State → Type 0) : Type 0 where
  pub next : (before state : State) (states : List State) → IsValid program before → Keep before → next program limits before ≡ Go states → Among state states → Keep state
  pub passes : (state : State) → Keep state → (id : ℕ) (f : FunId) (args : List ℕ) → node_at (graph_of state) id ≡ node (kind.SetCall f) args → P f

-- a state of a search, from the state in which it began
pub record IsUnder (program : Code) (limits : Limits) (P : FunId → Type 0) (Keep : State → Type 0) (start state : State) : Type 0 where
  pub valid : IsValid program state
  pub traced : IsTraced program limits state
  pub kept : Keep state
  pub came : CameFrom program limits P start state

module _ (program : Code) (limits : Limits) (P : FunId → Type 0) (Keep : State → Type 0) (start : State) (well : is_well_formed program ≡ true)
    (keeps : Keeps program limits P Keep) where
  pub step_under : (before state : State) (states : List State) → IsUnder program limits P Keep start before → next program limits before ≡ Go states → Among state states
      → IsUnder program limits P Keep start state
  step_under before state states on same m = record {
    valid = follows_valid program limits well before state states on.valid same m;
    traced = next_traced program limits before state states on.valid on.traced same m;
    kept = keeps.next before state states on.valid on.kept same m;
    came = came_both program limits P start before state on.came
        (next_came program limits P before state states well on.valid on.traced (keeps.passes before on.kept) same m);
  }

  reached_by : (state : State) (onward : State → State) (event : Next) → ((after : State) → event ≡ Go (after ∷ []) → IsUnder program limits P Keep start (onward after))
      → IsUnder program limits P Keep start state → IsUnder program limits P Keep start (elim (only_state event) as (λ x. State) [ Some after ↦ onward after | None ↦ state ])
  reached_by state onward (Go (after ∷ [])) each on = each after refl
  reached_by state onward _ each on = on

  pub reached_under : (more : ℕ) (state : State) → IsUnder program limits P Keep start state → IsUnder program limits P Keep start (reached_on more program limits state)
  unfolding reached_on
  reached_under zero state on = on
  reached_under (suc more) state on =
      reached_by state (reached_on more program limits) (next program limits state)
      (λ after is. reached_under more after (step_under state after (after ∷ []) on is (inl refl))) on

  pub follows_under : (before state : State) → IsUnder program limits P Keep start before → (event : Next) → next program limits before ≡ event → Among state (go_list event)
      → IsUnder program limits P Keep start state
  follows_under before state on (Go states) is m = step_under before state states on is m
  follows_under before state on _ is m = absurd m

pub level_under : (program : Code) (limits : SearchLimits) (P : FunId → Type 0) (Keep : State → Type 0) (start : State) → is_well_formed program ≡ true
    → Keeps program limits.step P Keep → IsUnder program limits.step P Keep start start → (depth : ℕ) (state : State) → Among state (level program limits start depth)
    → IsUnder program limits.step P Keep start state
unfolding level_by
level_under program limits P Keep start well keeps on zero state m =
    elim m [ inl same ↦ subst (λ (s : State). IsUnder program limits.step P Keep start s) same on | inr nowhere ↦ absurd nowhere ]
level_under program limits P Keep start well keeps on (suc depth) state m =
    let found = among_flat (λ s. go_list (run limits.stride program limits.step s)) state (level_by (run limits.stride program limits.step) start depth) m in
    let before = level_under program limits P Keep start well keeps on depth found.0 found.1 in
    let last = reached_on (limits.stride - 1) program limits.step found.0 in
    follows_under program limits.step P Keep start well keeps last state (reached_under program limits.step P Keep start well keeps (limits.stride - 1) found.0 before)
    (run limits.stride program limits.step found.0) (sym (run_reaches (limits.stride - 1) program limits.step found.0)) found.2
