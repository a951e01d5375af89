-- The searches of states that follow are traced, where those before are.
use Rattle.std.proofs.Common.{◌≡◌, ℕ, suc, ◌⊎◌, inl, inr, Bool, true, false, if◌then◌else◌, List, [], ◌∷◌, ◌++◌, refl, ap, ap₂, sym, ◌∙◌, subst, length, map, nat_lt, true≢false, arith, lt-ltb}
use Rattle.std.specs.Prelude.{flat_map}
use Rattle.std.specs.List.{list_all, list_any}
use Rattle.cu_calculus.specs.declared.FunId.{FunId}
use Rattle.cu_calculus.specs.Code.{Code}
use Rattle.cu_calculus.specs.Shape.{are_data}
use Rattle.cu_calculus.specs.Value.{Value, Values}
use Rattle.cu_machine.specs.declared.Kind.{Kind}
use Rattle.cu_machine.specs.declared.Kind.TheVariants as kind
use Rattle.cu_machine.specs.declared.Limits.{Limits}
use Rattle.cu_machine.specs.Among.{Among}
use Rattle.cu_machine.specs.Found.{inner_events, is_quiet}
use Rattle.cu_machine.specs.Graph.{Graph, node_at, put, stuck}
use Rattle.cu_machine.specs.Level.{go_list, level_by, step_level}
use Rattle.cu_machine.specs.Need.{At, Dead, Done, Need, Throughout, Wait, need_all}
use Rattle.cu_machine.specs.declared.Stop.TheVariants.{TooWide}
use Rattle.cu_machine.specs.Next.{Blocked, Go, Halts, LevelEvent, On, Stops, after_level, delivered, is_above, is_too_large, moved, next, next_by, read, searched, spelled_all, stepped}
use Rattle.cu_machine.specs.Rewrite.{Become, Collect, Move, Overflows, move, rewrite_step, stuck_step}
use Rattle.cu_machine.specs.Spell.{cells_of_all, spelled}
use Rattle.cu_machine.specs.State.{Branch, Idle, MoreStates, NoState, Running, State, States, call_on, states_of}
use Rattle.cu_machine.specs.Steps.{node}
use Rattle.cu_machine.specs.Validity.{IsValid, NodesFit, are_built, is_set_call}
use Rattle.cu_machine.proofs.Equations.{spelled_fits}
use Rattle.cu_machine.proofs.Fuel.{at_or_below, both_true}
use Rattle.cu_machine.proofs.Rows.{fit_values, fits_value}
use Rattle.cu_machine.proofs.Searches.{all_ground_built}
use Rattle.cu_machine.proofs.Successors.{IsNoSearch, answered_if, go_if, only_set_calls, unless_if}
use Rattle.cu_laws.specs.Traced.{IsTraced, TracedSearch, spelled_values}
use Rattle.cu_laws.proofs.Collecting.{collect_ready, ready_ground}
use Rattle.cu_laws.proofs.InnerLevels.{stepped_on}

-- ---- a search that begins

pub record Collected (graph : Graph) (id : ℕ) (f : FunId) (arguments : Values) : Type 0 where
  pub args : List ℕ
  pub is : node_at graph id ≡ node (kind.SetCall f) args
  pub same : arguments ≡ spelled_values graph args
  pub data_only : are_data (spelled_values graph args) ≡ true

collected_if : (graph : Graph) (id : ℕ) (g f : FunId) (args : List ℕ) (arguments : Values) (b : Bool) → node_at graph id ≡ node (kind.SetCall g) args
    → are_data (spelled_values graph args) ≡ b → (if b then Collect g (spelled_values graph args) else stuck_step graph id) ≡ Collect f arguments → Collected graph id f arguments
collected_if graph id g f args arguments false is tested same = let no : ⊥ = cc in absurd no
collected_if graph id g f args arguments true is tested same =
    let functions : g ≡ f = cc in
    let values : spelled_values graph args ≡ arguments = cc in
    record { args = args; is = is ∙ ap (λ (x : FunId). node (kind.SetCall x) args) functions; same = sym values; data_only = tested }

no_collect : (what : Move) (f : FunId) (arguments : Values) → IsNoSearch what → what ≡ Collect f arguments → ⊥
no_collect (Become graphs) f arguments quiet same = cc
no_collect (Overflows operation m n) f arguments quiet same = cc
no_collect (Collect g values) f arguments quiet same = quiet

pub collected_at : (program : Code) (graph : Graph) (id : ℕ) (f : FunId) (arguments : Values) (k : Kind) (args : List ℕ) → node_at graph id ≡ node k args
    → (is_set_call k ≡ true) ⊎ IsNoSearch (rewrite_step program graph id k args) → rewrite_step program graph id k args ≡ Collect f arguments → Collected graph id f arguments
collected_at program graph id f arguments k args is (inr quiet) same = absurd (no_collect (rewrite_step program graph id k args) f arguments quiet same)
collected_at program graph id f arguments (kind.SetCall g) args is (inl calls) same =
    collected_if graph id g f args arguments (are_data (spelled_values graph args)) is refl same
collected_at program graph id f arguments _ args is (inl calls) same = absurd (true≢false (sym calls))

values_fit : (program : Code) (graph : Graph) (args : List ℕ) → NodesFit program graph → fit_values program (spelled_values graph args) ≡ true
values_fit program graph [] nodes = refl
values_fit program graph (arg ∷ args) nodes =
    both_true (fits_value program (spelled graph arg)) (fit_values program (spelled_values graph args)) (spelled_fits program graph nodes (length graph) arg)
    (values_fit program graph args nodes)

-- the arguments of the call are ground data of the program
pub collected_built : (program : Code) (graph : Graph) (root id : ℕ) (goals : List ℕ) (f : FunId) (arguments : Values) → IsValid program (Branch graph root goals Idle)
    → need_all program.special.truth graph root ≡ At id → (found : Collected graph id f arguments) → are_built program (spelled_values graph found.args) ≡ true
unfolding IsValid
collected_built program graph root id goals f arguments valid needed found =
    let branch = valid.0 in
    let ready = collect_ready program.special.truth graph f found.args id found.is branch.arguments (length graph) Throughout root (lt-ltb root (length graph) branch.root_there) needed in
    let ground = ready_ground program.special.truth graph found.args ready found.data_only in
    all_ground_built program (spelled_values graph found.args) ground (values_fit program graph found.args branch.nodes)

begun_traced : (program : Code) (limits : Limits) (graph : Graph) (root id : ℕ) (goals : List ℕ) (f : FunId) (arguments : Values)
    → IsValid program (Branch graph root goals Idle) → need_all program.special.truth graph root ≡ At id → Collected graph id f arguments
    → TracedSearch program limits graph id [] (MoreStates (call_on program f arguments) NoState)
unfolding level_by
begun_traced program limits graph root id goals f arguments valid needed found = record {
  function = f;
  args = found.args;
  node_is = found.is;
  built = collected_built program graph root id goals f arguments valid needed found;
  depth = 0;
  level_is = ap (λ (vs : Values). MoreStates (call_on program f vs) NoState) found.same;
  found_is = refl;
  quiet = λ k below. absurd (omega arith);
}

-- ---- a search that goes on

flat_of_map : {A B C : Type 0} (f : B → List C) (g : A → B) (xs : List A) → flat_map f (map g xs) ≡ flat_map (λ x. f (g x)) xs
flat_of_map f g [] = refl
flat_of_map f g (x ∷ xs) = ap (λ ys. f (g x) ++ ys) (flat_of_map f g xs)

on_traced : (program : Code) (limits : Limits) (graph : Graph) (id : ℕ) (found values : List Value) (level : States) (states : List State)
    → TracedSearch program limits graph id found level → stepped program limits level ≡ On values states
    → TracedSearch program limits graph id (found ++ values) (states_of states)
unfolding level_by
on_traced program limits graph id found values level states traced is =
    let f = traced.function in
    let arguments = spelled_values graph traced.args in
    let before = step_level program limits (call_on program f arguments) traced.depth in
    let events = inner_events program limits f arguments in
    let on = stepped_on program limits before values states (sym (ap (stepped program limits) traced.level_is) ∙ is) in
    record {
      function = f;
      args = traced.args;
      node_is = traced.node_is;
      built = traced.built;
      depth = suc traced.depth;
      level_is = ap states_of (on.follow ∙ flat_of_map go_list (next program limits) before);
      found_is = ap₂ (λ (xs ys : List Value). xs ++ ys) traced.found_is on.answered;
      quiet = λ k below. elim (at_or_below k traced.depth below) [
        | inl last ↦ subst (λ (m : ℕ). list_all is_quiet (events m) ≡ true) (sym last) on.quiet
        | inr less ↦ traced.quiet k less
      ];
    }

-- ---- all states

at_only : (program : Code) (limits : Limits) (only state : State) → Among state (only ∷ []) → IsTraced program limits only → IsTraced program limits state
at_only program limits only state (inl same) traced = subst (λ (s : State). IsTraced program limits s) same traced
at_only program limits only state (inr nowhere) traced = absurd nowhere

among_idle : (program : Code) (limits : Limits) (root : ℕ) (goals : List ℕ) (graphs : List Graph) (state : State)
    → Among state (map (λ after. Branch after root goals Idle) graphs) → IsTraced program limits state
among_idle program limits root goals [] state m = absurd m
among_idle program limits root goals (graph ∷ graphs) state (inl same) = subst (λ (s : State). IsTraced program limits s) same tt
among_idle program limits root goals (graph ∷ graphs) state (inr rest) = among_idle program limits root goals graphs state rest

moved_traced : (program : Code) (limits : Limits) (graph : Graph) (root id : ℕ) (goals : List ℕ) (what : Move) (states : List State) (state : State)
    → IsValid program (Branch graph root goals Idle) → need_all program.special.truth graph root ≡ At id → move program graph id ≡ what
    → moved program limits root goals graph id what ≡ Go states → Among state states → IsTraced program limits state
moved_traced program limits graph root id goals (Become graphs) states state valid needed is same m =
    let branches = map (λ after. Branch after root goals Idle) graphs in
    let all : branches ≡ states = go_if (list_any (is_too_large limits) branches) limits branches states same in
    among_idle program limits root goals graphs state (subst (λ (xs : List State). Among state xs) (sym all) m)
moved_traced program limits graph root id goals (Overflows operation a b) states state valid needed is same m = let no : ⊥ = cc in absurd no
moved_traced program limits graph root id goals (Collect f arguments) states state valid needed is same m =
    let inner = call_on program f arguments in
    let only = Branch graph root goals (Running id [] (MoreStates inner NoState)) in
    let all : only ∷ [] ≡ states = go_if (is_too_large limits inner) limits (only ∷ []) states same in
    let found = collected_at program graph id f arguments (node_at graph id).kind (node_at graph id).args refl
    (only_set_calls program graph id (node_at graph id).kind (node_at graph id).args) is in
    at_only program limits only state (subst (λ (xs : List State). Among state xs) (sym all) m)
    (begun_traced program limits graph root id goals f arguments valid needed found)

next_by_traced : (program : Code) (limits : Limits) (graph : Graph) (root : ℕ) (goals : List ℕ) (what : Need) (states : List State) (state : State)
    → IsValid program (Branch graph root goals Idle) → need_all program.special.truth graph root ≡ what → next_by program limits graph root goals what ≡ Go states
    → Among state states → IsTraced program limits state
next_by_traced program limits graph root goals Done states state valid needed same m =
    absurd (answered_if (is_above limits (cells_of_all (spelled_all graph root goals))) limits (read graph root goals) states same)
next_by_traced program limits graph root goals Dead states state valid needed same m = let no : ⊥ = cc in absurd no
next_by_traced program limits graph root goals (Wait ids) states state valid needed same m = let no : ⊥ = cc in absurd no
next_by_traced program limits graph root goals (At id) states state valid needed same m =
    moved_traced program limits graph root id goals (move program graph id) states state valid needed refl same m

-- what follows a level that was stepped
pub data AfterLevel (graph : Graph) (root : ℕ) (goals : List ℕ) (id : ℕ) (found : List Value) (event : LevelEvent) (state : State) : Type 0 where
  was_blocked : state ≡ Branch (put graph id stuck) root goals Idle → AfterLevel graph root goals id found event state
  goes_on : (values : List Value) (states : List State) → event ≡ On values states → state ≡ Branch graph root goals (Running id (found ++ values) (states_of states))
      → AfterLevel graph root goals id found event state

unless_wide : (limits : Limits) (b : Bool) (n : ℕ) (only state : State) (states : List State) → (if b then Stops (TooWide n) else Go (only ∷ [])) ≡ Go states
    → Among state states → state ≡ only
unless_wide limits true n only state states same m = let no : ⊥ = cc in absurd no
unless_wide limits false n only state states same m =
    let all : only ∷ [] ≡ states = cc in alone (subst (λ (xs : List State). Among state xs) (sym all) m)
  where
    alone : Among state (only ∷ []) → state ≡ only
    alone (inl is) = sym is
    alone (inr nowhere) = absurd nowhere

pub after_level_is : (limits : Limits) (graph : Graph) (root : ℕ) (goals : List ℕ) (id : ℕ) (found : List Value) (event : LevelEvent) (states : List State) (state : State)
    → after_level limits graph root goals id found event ≡ Go states → Among state states → AfterLevel graph root goals id found event state
after_level_is limits graph root goals id found Blocked states state same m =
    was_blocked (unless_wide limits false 0 (Branch (put graph id stuck) root goals Idle) state states same m)
after_level_is limits graph root goals id found (Halts stop) states state same m = let no : ⊥ = cc in absurd no
after_level_is limits graph root goals id found (On values next_states) states state same m =
    goes_on values next_states refl
    (unless_wide limits (nat_lt limits.width (length next_states)) (length next_states) (Branch graph root goals (Running id (found ++ values) (states_of next_states))) state states same m)

pub next_traced : (program : Code) (limits : Limits) (before state : State) (states : List State) → IsValid program before → IsTraced program limits before
    → next program limits before ≡ Go states → Among state states → IsTraced program limits state
unfolding next
next_traced program limits (Branch graph root goals Idle) state states valid traced same m =
    next_by_traced program limits graph root goals (need_all program.special.truth graph root) states state valid refl
    (unless_if (is_above limits (length graph)) limits (next_by program limits graph root goals (need_all program.special.truth graph root)) states same) m
next_traced program limits (Branch graph root goals (Running id found NoState)) state states valid traced same m =
    let only = Branch (delivered program graph id found) root goals Idle in
    let one = unless_if (is_above limits (length graph)) limits (searched program limits graph root goals id found NoState (stepped program limits NoState)) states same in
    let all : only ∷ [] ≡ states = go_if (list_any (is_too_large limits) (only ∷ [])) limits (only ∷ []) states one in
    at_only program limits only state (subst (λ (xs : List State). Among state xs) (sym all) m) tt
next_traced program limits (Branch graph root goals (Running id found (MoreStates first rest))) state states valid traced same m =
    let level = MoreStates first rest in
    let one = unless_if (is_above limits (length graph)) limits (searched program limits graph root goals id found level (stepped program limits level)) states same in
    elim (after_level_is limits graph root goals id found (stepped program limits level) states state one m) [
      | was_blocked is ↦ subst (λ (s : State). IsTraced program limits s) (sym is) tt
      | goes_on values next_states event is ↦
          subst (λ (s : State). IsTraced program limits s) (sym is) (on_traced program limits graph id found values level next_states traced event)
    ]
