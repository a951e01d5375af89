-- The states of the levels of a search from a valid state are valid, and what a search finds is of
-- the program.
use Rattle.std.proofs.Common.{◌≡◌, ℕ, zero, suc, ◌-◌, inl, inr, true, List, [], ◌∷◌, IsTrue, refl, sym, ◌∙◌, subst, map, eq-eqb}
use Rattle.std.specs.Prelude.{flat_map}
use Rattle.std.specs.List.{list_all}
use Rattle.std.proofs.lemmas.List.Folds.{list_all-append}
use Rattle.cu_calculus.specs.declared.FunId.{FunId}
use Rattle.cu_calculus.specs.Code.{Code, function_arity}
use Rattle.cu_calculus.specs.Shape.{takes}
use Rattle.cu_calculus.specs.Value.{Value, Values, count}
use Rattle.cu_calculus.specs.WellFormed.{is_well_formed}
use Rattle.cu_machine.specs.declared.Limits.{Limits}
use Rattle.cu_machine.specs.declared.SearchLimits.{SearchLimits}
use Rattle.cu_machine.specs.Among.{Among}
use Rattle.cu_machine.specs.Found.{Found, answered_by, answers_before, inner_events, is_quiet}
use Rattle.cu_machine.specs.Level.{go_list, step_level, level, level_by}
use Rattle.cu_machine.specs.Next.{Answer, Fails, Go, Next, Stops, Waits, next}
use Rattle.cu_machine.specs.Run.{run, run_on}
use Rattle.cu_machine.specs.State.{State, call_on}
use Rattle.cu_machine.specs.Validity.{IsValid, is_built}
use Rattle.cu_machine.proofs.Depth.{among_append}
use Rattle.cu_machine.proofs.Fuel.{both_true, left_true, right_true}
use Rattle.cu_machine.proofs.Searches.{EventValid, all_built_fit, event_of_valid, reached_valid, sorted_all}
use Rattle.cu_machine.proofs.Runs.{run_reaches}
use Rattle.cu_machine.proofs.Starts.{call_on_valid}

-- an element of lists in a row is one of some list
pub among_flat : {A B : Type 0} (f : A → List B) (y : B) (xs : List A) → Among y (flat_map f xs) → (x : A) × Among x xs × Among y (f x)
among_flat f y [] m = absurd m
among_flat f y (x ∷ xs) m = elim (among_append y (f x) (flat_map f xs) m) [
  | inl here ↦ (x, inl refl, here)
  | inr there ↦ let found = among_flat f y xs there in (found.0, inr found.1, found.2)
]

-- what follows by a valid event is valid
pub follower_valid : (program : Code) (event : Next) (state : State) → EventValid program event → Among state (go_list event) → IsValid program state
follower_valid program (Go states) state valid m = valid state m
follower_valid program (Answer reading) state valid m = absurd m
follower_valid program Fails state valid m = absurd m
follower_valid program (Waits names) state valid m = absurd m
follower_valid program (Stops stop) state valid m = absurd m

pub level_by_valid : (program : Code) (event : State → Next) (start : State) → ((state : State) → IsValid program state → EventValid program (event state))
    → IsValid program start → (depth : ℕ) (state : State) → Among state (level_by event start depth) → IsValid program state
unfolding level_by
level_by_valid program event start each valid zero state m = elim m [ inl same ↦ subst (λ (s : State). IsValid program s) same valid | inr nowhere ↦ absurd nowhere ]
level_by_valid program event start each valid (suc depth) state m =
    let found = among_flat (λ s. go_list (event s)) state (level_by event start depth) m in
    follower_valid program (event found.0) state (each found.0 (level_by_valid program event start each valid depth found.0 found.1)) found.2

pub run_event_valid : (program : Code) (limits : Limits) (more : ℕ) → IsTrue (is_well_formed program) → (state : State) → IsValid program state
    → EventValid program (run_on more program limits state)
run_event_valid program limits more well state valid =
    subst (λ (event : Next). EventValid program event) (sym (run_reaches more program limits state))
    (event_of_valid program limits well _ (reached_valid program limits well more state valid))

pub level_valid : (program : Code) (limits : SearchLimits) (start state : State) (depth : ℕ) → IsTrue (is_well_formed program) → IsValid program start
    → Among state (level program limits start depth) → IsValid program state
level_valid program limits start state depth well valid m =
    level_by_valid program (run limits.stride program limits.step) start (run_event_valid program limits.step (limits.stride - 1) well) valid depth state m

pub inner_valid : (program : Code) (limits : Limits) (start state : State) (depth : ℕ) → IsTrue (is_well_formed program) → IsValid program start
    → Among state (step_level program limits start depth) → IsValid program state
inner_valid program limits start state depth well valid m = level_by_valid program (next program limits) start (event_of_valid program limits well) valid depth state m

-- ---- what is found

pub quiet_answers : (program : Code) (event : Next) → EventValid program event → is_quiet event ≡ true → list_all (is_built program) (answered_by event) ≡ true
quiet_answers program (Answer reading) valid quiet = both_true (is_built program reading.value) true (valid quiet) refl
quiet_answers program (Go states) valid quiet = refl
quiet_answers program Fails valid quiet = refl
quiet_answers program (Waits names) valid quiet = refl
quiet_answers program (Stops stop) valid quiet = refl

pub events_built : (program : Code) (limits : Limits) (states : List State) → IsTrue (is_well_formed program) → ((state : State) → Among state states → IsValid program state)
    → list_all is_quiet (map (next program limits) states) ≡ true → list_all (is_built program) (flat_map answered_by (map (next program limits) states)) ≡ true
events_built program limits [] well each quiet = refl
events_built program limits (state ∷ states) well each quiet =
    let event = next program limits state in
    let others = map (next program limits) states in
    list_all-append (is_built program) (answered_by event) (flat_map answered_by others)
    ∙ both_true (list_all (is_built program) (answered_by event)) (list_all (is_built program) (flat_map answered_by others))
    (quiet_answers program event (event_of_valid program limits well state (each state (inl refl))) (left_true (is_quiet event) (list_all is_quiet others) quiet))
    (events_built program limits states well (λ other m. each other (inr m)) (right_true (is_quiet event) (list_all is_quiet others) quiet))

pub answers_built : (program : Code) (events : ℕ → List Next) (depth : ℕ) → ((k : ℕ) → list_all (is_built program) (flat_map answered_by (events k)) ≡ true)
    → list_all (is_built program) (answers_before events depth) ≡ true
answers_built program events zero each = refl
answers_built program events (suc depth) each =
    list_all-append (is_built program) (answers_before events depth) (flat_map answered_by (events depth))
    ∙ both_true (list_all (is_built program) (answers_before events depth)) (list_all (is_built program) (flat_map answered_by (events depth)))
    (answers_built program events depth each) (each depth)

pub found_built : (program : Code) (limits : Limits) (f : FunId) (arguments : Values) (values : List Value) → IsTrue (is_well_formed program)
    → Found program limits f arguments values → IsTrue (list_all (is_built program) values)
found_built program limits f arguments values well found =
    let whole : takes (function_arity program f) (count arguments) ≡ true =
    subst (λ o. takes o (count arguments) ≡ true) (sym found.whole) (eq-eqb (count arguments) (count arguments) refl) in
    let start : IsValid program (call_on program f arguments) = call_on_valid program f arguments well whole (all_built_fit program arguments found.built) in
    subst (λ (vs : List Value). list_all (is_built program) vs ≡ true) (sym found.collected)
    (sorted_all (is_built program) (answers_before (inner_events program limits f arguments) found.depth)
    (answers_built program (inner_events program limits f arguments) found.depth
    (λ k. events_built program limits (step_level program limits (call_on program f arguments) k) well
    (λ state m. inner_valid program limits (call_on program f arguments) state k well start m) (found.quiet k))))
