-- The states that follow any valid one are valid, also where a search runs: it finds ground data of
-- the program, and its levels are valid.
use Rattle.std.proofs.Common.{◌≡◌, ℕ, zero, suc, ◌+◌, inl, inr, Bool, true, false, ◌&&◌, List, [], ◌∷◌, ◌++◌, Option, None, Some, if◌then◌else◌, refl, ap, sym, ◌∙◌, subst, true≢false, length, nat_lt, arith}
use Rattle.std.specs.List.{list_all, list_any}
use Rattle.std.proofs.lemmas.List.Folds.{list_all-append}
use Rattle.std.specs.declared.cmp.Ordering.{Ordering}
use Rattle.std.specs.declared.cmp.Ordering.TheVariants.{Equal, Greater, Less}
use Rattle.cu_calculus.specs.declared.ConId.{ConId}
use Rattle.cu_calculus.specs.declared.Head.TheVariants as head
use Rattle.cu_calculus.specs.Code.{Code, arity_of}
use Rattle.cu_calculus.specs.Gives.{listed}
use Rattle.cu_calculus.specs.Order.{value_order}
use Rattle.cu_calculus.specs.Shape.{are_ground, is_ground, takes, takes_more}
use Rattle.cu_calculus.specs.Value as value
use Rattle.cu_calculus.specs.Value.{Value, Values, count}
use Rattle.cu_calculus.specs.WellFormed.{is_allowed, is_well_formed}
use Rattle.cu_machine.specs.declared.Kind.{Kind}
use Rattle.cu_machine.specs.declared.Kind.TheVariants as kind
use Rattle.cu_machine.specs.declared.Limits.{Limits}
use Rattle.cu_machine.specs.declared.Stop.TheVariants.{TooWide}
use Rattle.cu_machine.specs.Among.{Among}
use Rattle.cu_machine.specs.Build.{written}
use Rattle.cu_machine.specs.Graph.{Graph, node_at, put, stuck}
use Rattle.cu_machine.specs.Next.{Answer, Blocked, Fails, Go, Halts, LevelEvent, Next, On, Reading, Stops, Waits, after_level, delivered, is_above, is_too_large, next, read, searched, spelled_all, stepped, too_large, with_found, with_outcome, with_states}
use Rattle.cu_machine.specs.Run.{only_state, reached_on, run_on}
use Rattle.cu_machine.specs.Sort.{inserted, inserted_by, sorted}
use Rattle.cu_machine.specs.Spell.{all_renumbered, ordinal, push_value, renumbered, spelled, variables_of_all}
use Rattle.cu_machine.specs.State.{Branch, Idle, MoreStates, NoState, Running, State, States, states_of}
use Rattle.cu_machine.specs.Validity.{AllValid, IsValid, IsValidBranch, IsValidSearch, NodesFit, are_built, is_built, is_plain, is_set_call}
use Rattle.cu_machine.proofs.Building.{CodeGood, all_hold, special_there}
use Rattle.cu_machine.proofs.Depth.{among_append}
use Rattle.cu_machine.proofs.Equations.{base_at, spelled_fits}
use Rattle.cu_machine.proofs.Fuel.{both_true, left_true, right_true}
use Rattle.cu_machine.proofs.Rows.{Base, GraphGood, fit_values, fits_value, frame_of, put_good, special_good, written_good}
use Rattle.cu_machine.proofs.Runs.{answer_read, run_reaches}
use Rattle.cu_machine.proofs.Starts.{value_good}
use Rattle.cu_machine.proofs.Successors.{branch_good, next_valid}

-- ---- values of the program

mutual
  pub built_fits : (program : Code) (v : Value) → is_built program v ≡ true → fits_value program v ≡ true
  built_fits program value.Bottom built = refl
  built_fits program (value.Variable x) built = refl
  built_fits program (value.Literal l) built = built
  built_fits program (value.Constructed c vs) built =
      both_true (takes (arity_of program (head.Con c)) (count vs)) (fit_values program vs) (left_true (takes (arity_of program (head.Con c)) (count vs)) (are_built program vs) built)
      (all_built_fit program vs (right_true (takes (arity_of program (head.Con c)) (count vs)) (are_built program vs) built))
  built_fits program (value.Partial h vs) built = let none_left : ⊥ = true≢false (sym built) in absurd none_left

  pub all_built_fit : (program : Code) (vs : Values) → are_built program vs ≡ true → fit_values program vs ≡ true
  all_built_fit program value.NoValue built = refl
  all_built_fit program (value.MoreValues v vs) built =
      both_true (fits_value program v) (fit_values program vs) (built_fits program v (left_true (is_built program v) (are_built program vs) built))
      (all_built_fit program vs (right_true (is_built program v) (are_built program vs) built))

mutual
  pub ground_built : (program : Code) (v : Value) → is_ground v ≡ true → fits_value program v ≡ true → is_built program v ≡ true
  ground_built program value.Bottom ground fit = ground
  ground_built program (value.Variable x) ground fit = ground
  ground_built program (value.Literal l) ground fit = fit
  ground_built program (value.Constructed c vs) ground fit =
      both_true (takes (arity_of program (head.Con c)) (count vs)) (are_built program vs) (left_true (takes (arity_of program (head.Con c)) (count vs)) (fit_values program vs) fit)
      (all_ground_built program vs ground (right_true (takes (arity_of program (head.Con c)) (count vs)) (fit_values program vs) fit))
  ground_built program (value.Partial h vs) ground fit = ground

  pub all_ground_built : (program : Code) (vs : Values) → are_ground vs ≡ true → fit_values program vs ≡ true → are_built program vs ≡ true
  all_ground_built program value.NoValue ground fit = refl
  all_ground_built program (value.MoreValues v vs) ground fit =
      both_true (is_built program v) (are_built program vs)
      (ground_built program v (left_true (is_ground v) (are_ground vs) ground) (left_true (fits_value program v) (fit_values program vs) fit))
      (all_ground_built program vs (right_true (is_ground v) (are_ground vs) ground) (right_true (fits_value program v) (fit_values program vs) fit))

pub count_renumbered : (number : ℕ → ℕ) (vs : Values) → count (all_renumbered number vs) ≡ count vs
count_renumbered number value.NoValue = refl
count_renumbered number (value.MoreValues v vs) = ap (λ n. n + 1) (count_renumbered number vs)

mutual
  pub renumbered_fits : (program : Code) (number : ℕ → ℕ) (v : Value) → fits_value program v ≡ true → fits_value program (renumbered number v) ≡ true
  renumbered_fits program number value.Bottom fit = refl
  renumbered_fits program number (value.Variable x) fit = refl
  renumbered_fits program number (value.Literal l) fit = fit
  renumbered_fits program number (value.Constructed c vs) fit =
      both_true (takes (arity_of program (head.Con c)) (count (all_renumbered number vs))) (fit_values program (all_renumbered number vs))
      (subst (λ (n : ℕ). takes (arity_of program (head.Con c)) n ≡ true) (sym (count_renumbered number vs))
      (left_true (takes (arity_of program (head.Con c)) (count vs)) (fit_values program vs) fit))
      (all_renumbered_fit program number vs (right_true (takes (arity_of program (head.Con c)) (count vs)) (fit_values program vs) fit))
  renumbered_fits program number (value.Partial h vs) fit =
      let whole = λ (n : ℕ). is_allowed program h && takes_more (arity_of program h) n in
      both_true (whole (count (all_renumbered number vs))) (fit_values program (all_renumbered number vs))
      (subst (λ (n : ℕ). whole n ≡ true) (sym (count_renumbered number vs)) (left_true (whole (count vs)) (fit_values program vs) fit))
      (all_renumbered_fit program number vs (right_true (whole (count vs)) (fit_values program vs) fit))

  pub all_renumbered_fit : (program : Code) (number : ℕ → ℕ) (vs : Values) → fit_values program vs ≡ true → fit_values program (all_renumbered number vs) ≡ true
  all_renumbered_fit program number value.NoValue fit = refl
  all_renumbered_fit program number (value.MoreValues v vs) fit =
      both_true (fits_value program (renumbered number v)) (fit_values program (all_renumbered number vs))
      (renumbered_fits program number v (left_true (fits_value program v) (fit_values program vs) fit))
      (all_renumbered_fit program number vs (right_true (fits_value program v) (fit_values program vs) fit))

-- ---- lists of found values

pub inserted_all_by : (q : Value → Bool) (order : Ordering) (v w : Value) (rest after : List Value) → q v ≡ true → q w ≡ true → list_all q rest ≡ true
    → list_all q after ≡ true → list_all q (inserted_by order v w rest after) ≡ true
inserted_all_by q Less v w rest after one two all more = both_true (q v) (q w && list_all q rest) one (both_true (q w) (list_all q rest) two all)
inserted_all_by q Equal v w rest after one two all more = both_true (q w) (list_all q rest) two all
inserted_all_by q Greater v w rest after one two all more = both_true (q w) (list_all q after) two more

pub inserted_all : (q : Value → Bool) (v : Value) (vs : List Value) → q v ≡ true → list_all q vs ≡ true → list_all q (inserted v vs) ≡ true
inserted_all q v [] one all = both_true (q v) true one refl
inserted_all q v (w ∷ rest) one all =
    inserted_all_by q (value_order v w) v w rest (inserted v rest) one (left_true (q w) (list_all q rest) all) (right_true (q w) (list_all q rest) all)
    (inserted_all q v rest one (right_true (q w) (list_all q rest) all))

pub sorted_all : (q : Value → Bool) (vs : List Value) → list_all q vs ≡ true → list_all q (sorted vs) ≡ true
sorted_all q [] all = refl
sorted_all q (v ∷ vs) all = inserted_all q v (sorted vs) (left_true (q v) (list_all q vs) all) (sorted_all q vs (right_true (q v) (list_all q vs) all))

pub listed_fits : (program : Code) (nil cons : ConId) (vs : List Value) → takes (arity_of program (head.Con nil)) 0 ≡ true → takes (arity_of program (head.Con cons)) 2 ≡ true
    → list_all (is_built program) vs ≡ true → fits_value program (listed nil cons vs) ≡ true
listed_fits program nil cons [] empty more all = both_true (takes (arity_of program (head.Con nil)) 0) true empty refl
listed_fits program nil cons (v ∷ vs) empty more all =
    both_true (takes (arity_of program (head.Con cons)) 2) (fits_value program v && (fits_value program (listed nil cons vs) && true)) more
    (both_true (fits_value program v) (fits_value program (listed nil cons vs) && true) (built_fits program v (left_true (is_built program v) (list_all (is_built program) vs) all))
    (both_true (fits_value program (listed nil cons vs)) true
    (listed_fits program nil cons vs empty more (right_true (is_built program v) (list_all (is_built program) vs) all)) refl))

-- ---- the end of a search

pub set_call_unplain : (k : Kind) → is_set_call k ≡ true → is_plain k ≡ false
set_call_unplain (kind.SetCall f) calls = refl
set_call_unplain _ calls = let none_left : ⊥ = true≢false (sym calls) in absurd none_left

pub delivered_by : (program : Code) (graph : Graph) (goals : List ℕ) (n id : ℕ) (p : ℕ → Bool) (found : List Value) (o : Option ConId) → Base program true graph goals n id p
    → elim o [ Some c ↦ takes (arity_of program (head.Con c)) 1 | None ↦ true ] ≡ true
    → fits_value program (listed program.special.nil program.special.cons (sorted found)) ≡ true
    → GraphGood program true goals n (elim o as (λ x. Graph) [
      | Some c ↦ written graph id (push_value (length graph)
          (value.Constructed c (value.MoreValues (listed program.special.nil program.special.cons (sorted found)) value.NoValue)))
      | None ↦ put graph id stuck
    ])
delivered_by program graph goals n id p found (Some c) base whole fit =
    let list = listed program.special.nil program.special.cons (sorted found) in
    let values = value.Constructed c (value.MoreValues list value.NoValue) in
    written_good program true graph goals n id p (push_value (length graph) values) base
    (value_good (frame_of program true graph p) (length graph) values (omega arith) refl
    (both_true (takes (arity_of program (head.Con c)) 1) (fits_value program list && true) whole (both_true (fits_value program list) true fit refl)))
delivered_by program graph goals n id p found None base whole fit = put_good program true graph goals n id p stuck base refl refl refl

pub delivered_good : (program : Code) (graph : Graph) (goals : List ℕ) (n id : ℕ) (p : ℕ → Bool) (found : List Value) → Base program true graph goals n id p
    → list_all (is_built program) found ≡ true → GraphGood program true goals n (delivered program graph id found)
delivered_good program graph goals n id p found base built =
    let special = special_good program (special_there program base.code.well_formed) in
    delivered_by program graph goals n id p found program.special.values base special.values
    (listed_fits program program.special.nil program.special.cons (sorted found) special.nil special.cons (sorted_all (is_built program) found built))

-- ---- events

abbrev pub EventValid : Code → Next → Type 0
EventValid program (Go states) = (state : State) → Among state states → IsValid program state
EventValid program (Answer reading) = is_ground reading.value ≡ true → is_built program reading.value ≡ true
EventValid program _ = Unit {0}

abbrev pub LevelEventValid : Code → LevelEvent → Type 0
LevelEventValid program (On values states) = (list_all (is_built program) values ≡ true) × ((state : State) → Among state states → IsValid program state)
LevelEventValid program _ = Unit {0}

pub event_valid : (program : Code) (event : Next) → ((states : List State) (state : State) → event ≡ Go states → Among state states → IsValid program state)
    → ((reading : Reading) → event ≡ Answer reading → is_ground reading.value ≡ true → is_built program reading.value ≡ true) → EventValid program event
event_valid program (Go states) goes answers = λ state. goes states state refl
event_valid program (Answer reading) goes answers = answers reading refl
event_valid program Fails goes answers = tt
event_valid program (Waits names) goes answers = tt
event_valid program (Stops stop) goes answers = tt

-- what is read off a valid state is of the program
pub reading_built : (program : Code) (graph : Graph) (root : ℕ) (goals : List ℕ) (reading : Reading) → NodesFit program graph → reading ≡ read graph root goals
    → is_ground reading.value ≡ true → is_built program reading.value ≡ true
reading_built program graph root goals reading nodes is ground =
    let number = ordinal (variables_of_all (spelled_all graph root goals)) in
    ground_built program reading.value ground
    (subst (λ (r : Reading). fits_value program r.value ≡ true) (sym is)
    (renumbered_fits program number (spelled graph root) (spelled_fits program graph nodes (length graph) root)))

-- ---- outcomes of a level

pub alone_valid : (program : Code) (state other : State) → IsValid program state → Among other (state ∷ []) → IsValid program other
alone_valid program state other valid m = elim m [ inl same ↦ subst (λ (s : State). IsValid program s) same valid | inr nowhere ↦ absurd nowhere ]

pub states_valid : (program : Code) (states : List State) → ((state : State) → Among state states → IsValid program state) → AllValid program (states_of states)
unfolding IsValid
states_valid program [] each = tt
states_valid program (state ∷ states) each = (each state (inl refl), states_valid program states (λ other m. each other (inr m)))

pub found_valid : (program : Code) (v : Value) (others : LevelEvent) → is_built program v ≡ true → LevelEventValid program others → LevelEventValid program (with_found v others)
found_valid program v (On values states) built rest = (both_true (is_built program v) (list_all (is_built program) values) built rest.0, rest.1)
found_valid program v Blocked built rest = tt
found_valid program v (Halts stop) built rest = tt

pub answer_valid : (program : Code) (v : Value) (others : LevelEvent) (ground : Bool) → is_ground v ≡ ground → (is_ground v ≡ true → is_built program v ≡ true)
    → LevelEventValid program others → LevelEventValid program (if ground then with_found v others else Blocked)
answer_valid program v others true is built rest = found_valid program v others (built is) rest
answer_valid program v others false is built rest = tt

pub go_valid : (program : Code) (prefix : List State) (others : LevelEvent) → ((state : State) → Among state prefix → IsValid program state) → LevelEventValid program others
    → LevelEventValid program (with_states prefix others)
go_valid program prefix (On values states) each rest =
    (rest.0, λ state m. elim (among_append state prefix states m) [ inl first ↦ each state first | inr second ↦ rest.1 state second ])
go_valid program prefix Blocked each rest = tt
go_valid program prefix (Halts stop) each rest = tt

pub outcome_valid : (program : Code) (event : Next) (others : LevelEvent) → EventValid program event → LevelEventValid program others
    → LevelEventValid program (with_outcome event others)
outcome_valid program (Stops stop) others valid rest = tt
outcome_valid program (Waits names) others valid rest = tt
outcome_valid program Fails others valid rest = rest
outcome_valid program (Answer reading) others valid rest = answer_valid program reading.value others (is_ground reading.value) refl valid rest
outcome_valid program (Go states) others valid rest = go_valid program states others valid rest

pub one_valid : (program : Code) (limits : Limits) (b : Bool) (state : State) → IsValid program state → EventValid program (if b then too_large limits else Go (state ∷ []))
one_valid program limits true state valid = tt
one_valid program limits false state valid = λ other. alone_valid program state other valid

pub unless_valid : (program : Code) (limits : Limits) (b : Bool) (event : Next) → EventValid program event → EventValid program (if b then too_large limits else event)
unless_valid program limits true event valid = tt
unless_valid program limits false event valid = valid

-- ---- all states

module _ (program : Code) (limits : Limits) (well : is_well_formed program ≡ true) where
  code_good : CodeGood program true
  code_good = record { well_formed = well; passing = all_hold program.expressions }

  -- a state whose search is over, where another node stands in place of the call
  pub over_valid : (graph after : Graph) (root : ℕ) (goals : List ℕ) → IsValidBranch program graph root goals → GraphGood program true goals (length graph) after
      → IsValid program (Branch after root goals Idle)
  over_valid graph after root goals before good = (branch_good program true graph after root goals before good).valid

  pub base_of : (graph : Graph) (root : ℕ) (goals : List ℕ) (id : ℕ) (found : List Value) → IsValidBranch program graph root goals → IsValidSearch program graph id found
      → (p : ℕ → Bool) × Base program true graph goals (length graph) id p × (list_all p (node_at graph id).args ≡ true)
  base_of graph root goals id found before search =
      base_at program true graph goals id code_good
      (record { nodes = before.nodes; arguments = before.arguments; acyclic = before.acyclic; passing = λ i below. refl })
      before.goals_plain search.there (set_call_unplain (node_at graph id).kind search.set_call)

  pub on_valid : (graph : Graph) (root : ℕ) (goals : List ℕ) (id : ℕ) (found values : List Value) (states : List State) (wide : Bool) → IsValidBranch program graph root goals
      → IsValidSearch program graph id found → LevelEventValid program (On values states)
      → EventValid program (if wide then Stops (TooWide (length states)) else Go (Branch graph root goals (Running id (found ++ values) (states_of states)) ∷ []))
  unfolding IsValid
  on_valid graph root goals id found values states true before search event = tt
  on_valid graph root goals id found values states false before search event =
      let running = Branch graph root goals (Running id (found ++ values) (states_of states)) in
      let valid : IsValid program running = (
        before,
        (
          record {
            there = search.there;
            set_call = search.set_call;
            built = list_all-append (is_built program) found values
                ∙ both_true (list_all (is_built program) found) (list_all (is_built program) values) search.built event.0;
          },
          states_valid program states event.1,
        ),
      ) in
      λ other. alone_valid program running other valid

  pub level_valid : (graph : Graph) (root : ℕ) (goals : List ℕ) (id : ℕ) (found : List Value) (event : LevelEvent) → IsValidBranch program graph root goals
      → IsValidSearch program graph id found → LevelEventValid program event → EventValid program (after_level limits graph root goals id found event)
  level_valid graph root goals id found Blocked before search event =
      let base = base_of graph root goals id found before search in
      λ other. alone_valid program (Branch (put graph id stuck) root goals Idle) other
      (over_valid graph (put graph id stuck) root goals before (put_good program true graph goals (length graph) id base.0 stuck base.1 refl refl refl))
  level_valid graph root goals id found (Halts stop) before search event = tt
  level_valid graph root goals id found (On values states) before search event =
      on_valid graph root goals id found values states (nat_lt limits.width (length states)) before search event

  pub search_valid : (graph : Graph) (root : ℕ) (goals : List ℕ) (id : ℕ) (found : List Value) (level : States) (event : LevelEvent) → IsValidBranch program graph root goals
      → IsValidSearch program graph id found → LevelEventValid program event → EventValid program (searched program limits graph root goals id found level event)
  search_valid graph root goals id found NoState event before search inner =
      let base = base_of graph root goals id found before search in
      let after = Branch (delivered program graph id found) root goals Idle in
      one_valid program limits (list_any (is_too_large limits) (after ∷ [])) after
      (over_valid graph (delivered program graph id found) root goals before
      (delivered_good program graph goals (length graph) id base.0 found base.1 search.built))
  search_valid graph root goals id found (MoreStates state states) event before search inner = level_valid graph root goals id found event before search inner

  mutual
    unfolding IsValid next

    pub event_of_valid : (state : State) → IsValid program state → EventValid program (next program limits state)
    event_of_valid (Branch graph root goals Idle) valid =
        event_valid program (next program limits (Branch graph root goals Idle)) (λ states state. next_valid program limits graph root goals states state well valid)
        (λ reading same. reading_built program graph root goals reading valid.0.nodes (answer_read program limits (Branch graph root goals Idle) reading same))
    event_of_valid (Branch graph root goals (Running id found level)) valid =
        unless_valid program limits (is_above limits (length graph)) (searched program limits graph root goals id found level (stepped program limits level))
        (search_valid graph root goals id found level (stepped program limits level) valid.0 valid.1.0 (level_of_valid level valid.1.1))

    pub level_of_valid : (states : States) → AllValid program states → LevelEventValid program (stepped program limits states)
    level_of_valid NoState valid = (refl, λ state nowhere. absurd nowhere)
    level_of_valid (MoreStates state states) valid =
        outcome_valid program (next program limits state) (stepped program limits states) (event_of_valid state valid.0) (level_of_valid states valid.1)

  pub follows_valid : (before state : State) (states : List State) → IsValid program before → next program limits before ≡ Go states → Among state states → IsValid program state
  follows_valid before state states valid same m =
      (subst (λ (event : Next). EventValid program event) same (event_of_valid before valid)) state m

  -- ---- runs

  pub reached_valid_by : (state : State) (onward : State → State) (event : Next) → ((after : State) → event ≡ Go (after ∷ []) → IsValid program (onward after)) → IsValid program state
      → IsValid program (elim (only_state event) as (λ x. State) [ Some after ↦ onward after | None ↦ state ])
  reached_valid_by state onward (Go (after ∷ [])) each valid = each after refl
  reached_valid_by state onward _ each valid = valid

  pub reached_valid : (more : ℕ) (state : State) → IsValid program state → IsValid program (reached_on more program limits state)
  unfolding reached_on
  reached_valid zero state valid = valid
  reached_valid (suc more) state valid =
      reached_valid_by state (reached_on more program limits) (next program limits state)
      (λ after same. reached_valid more after (follows_valid state after (after ∷ []) valid same (inl refl))) valid

  pub run_valid : (more : ℕ) (before state : State) (states : List State) → IsValid program before → run_on more program limits before ≡ Go states → Among state states
      → IsValid program state
  run_valid more before state states valid same m =
      follows_valid (reached_on more program limits before) state states (reached_valid more before valid) (sym (run_reaches more program limits before) ∙ same) m
