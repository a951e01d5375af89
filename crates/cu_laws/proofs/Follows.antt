-- From a state back to the one that it follows, and so back to the start of a search.
use Rattle.std.proofs.Common.{◌≡◌, ℕ, zero, suc, ◌-◌, inl, inr, true, List, [], ◌∷◌, None, Some, refl, sym, ◌∙◌, subst, length, map}
use Rattle.std.specs.List.{list_any}
use Rattle.cu_calculus.specs.Code.{Code}
use Rattle.cu_calculus.specs.Gives.{Claim}
use Rattle.cu_calculus.specs.WellFormed.{is_well_formed}
use Rattle.cu_machine.specs.declared.Limits.{Limits}
use Rattle.cu_machine.specs.declared.SearchLimits.{SearchLimits}
use Rattle.cu_machine.specs.Among.{Among}
use Rattle.cu_machine.specs.Graph.{Graph}
use Rattle.cu_machine.specs.Level.{go_list, level, level_by}
use Rattle.cu_machine.specs.Need.{At, Dead, Done, Need, Wait, need_all}
use Rattle.cu_machine.specs.Next.{Go, Next, is_above, is_too_large, moved, next, next_by, spelled_all}
use Rattle.cu_machine.specs.Rewrite.{Become, Collect, Move, Overflows, move}
use Rattle.cu_machine.specs.Run.{only_state, reached_on, run}
use Rattle.cu_machine.specs.Sets.{IsWithoutSets, code_is_without_sets, without}
use Rattle.cu_machine.specs.Spell.{cells_of_all}
use Rattle.cu_machine.specs.State.{Branch, Idle, MoreStates, NoState, Running, State, call_on, graph_of}
use Rattle.cu_machine.specs.Validity.{IsValid}
use Rattle.cu_machine.proofs.Levels.{among_flat}
use Rattle.cu_machine.proofs.MoveRows.{moves_row}
use Rattle.cu_machine.proofs.Runs.{run_reaches}
use Rattle.cu_machine.proofs.Searches.{follows_valid}
use Rattle.cu_machine.proofs.Successors.{answered_if, go_if, next_without, unless_if}
use Rattle.cu_laws.specs.Good.{Assignment, Good}
use Rattle.cu_laws.specs.Promises.{goals_of, root_of}
use Rattle.cu_laws.proofs.AllRows.{sound_row}
use Rattle.cu_laws.proofs.Changed.{Sound}
use Rattle.cu_laws.proofs.Raising.{rises_itself, rises_trans}

-- A state that comes from another one: root and goal variables are the same, and good assignments
-- can be carried back.
pub record ComesFrom (program : Code) (claims : List Claim) (before state : State) : Type 0 where
  pub roots : root_of state ≡ root_of before
  pub goals : goals_of state ≡ goals_of before
  pub backward : (later : Assignment) → Good program claims (graph_of state) later → Sound program claims (graph_of before) later

pub comes_from_itself : (program : Code) (claims : List Claim) (state : State) → ComesFrom program claims state state
comes_from_itself program claims state = record { roots = refl; goals = refl; backward = λ later good. (later, good, rises_itself later) }

pub comes_from_both : (program : Code) (claims : List Claim) (one two three : State) → ComesFrom program claims one two → ComesFrom program claims two three
    → ComesFrom program claims one three
comes_from_both program claims one two three first second = record {
  roots = second.roots ∙ first.roots;
  goals = second.goals ∙ first.goals;
  backward = λ later good.
      let middle = second.backward later good in
      let found = first.backward middle.0 middle.1 in
      (found.0, found.1, rises_trans later middle.0 found.0 middle.2 found.2);
}

-- ---- one step of a state in which no search runs

among_map : (graphs : List Graph) (f : Graph → State) (state : State) → Among state (map f graphs) → (graph : Graph) × Among graph graphs × (state ≡ f graph)
among_map [] f state m = absurd m
among_map (graph ∷ graphs) f state (inl same) = (graph, inl refl, sym same)
among_map (graph ∷ graphs) f state (inr rest) = let found = among_map graphs f state rest in (found.0, inr found.1, found.2)

module _ (program : Code) (claims : List Claim) (limits : Limits) (well : is_well_formed program ≡ true) where
  moved_from : (graph : Graph) (root id : ℕ) (goals : List ℕ) (what : Move) (states : List State) (state : State) → IsValid program (Branch graph root goals Idle)
      → need_all program.special.truth graph root ≡ At id → move program graph id ≡ what → moved program limits root goals graph id what ≡ Go states
      → Among state states → ComesFrom program claims (Branch graph root goals Idle) state
  unfolding IsValid
  moved_from graph root id goals (Become graphs) states state valid needed is same m =
      let branches = map (λ after. Branch after root goals Idle) graphs in
      let all : branches ≡ states = go_if (list_any (is_too_large limits) branches) limits branches states same in
      let found = among_map graphs (λ after. Branch after root goals Idle) state (subst (λ (xs : List State). Among state xs) (sym all) m) in
      let row = moves_row program graph found.0 root id goals graphs valid needed is found.1 in
      subst (λ (s : State). ComesFrom program claims (Branch graph root goals Idle) s) (sym found.2) (record {
        roots = refl;
        goals = refl;
        backward = λ later good. sound_row program claims graph found.0 id later well valid.0.nodes row good;
      })
  moved_from graph root id goals (Overflows operation a b) states state valid needed is same m = let no : ⊥ = cc in absurd no
  moved_from graph root id goals (Collect f arguments) states state valid needed is same m =
      let inner = call_on program f arguments in
      let only = Branch graph root goals (Running id [] (MoreStates inner NoState)) in
      let all : only ∷ [] ≡ states = go_if (is_too_large limits inner) limits (only ∷ []) states same in
      at_first only (subst (λ (xs : List State). Among state xs) (sym all) m) (record {
        roots = refl;
        goals = refl;
        backward = λ later good. (later, good, rises_itself later);
      })
    where
      at_first : (only : State) → Among state (only ∷ []) → ComesFrom program claims (Branch graph root goals Idle) only
          → ComesFrom program claims (Branch graph root goals Idle) state
      at_first only (inl same) comes = subst (λ (s : State). ComesFrom program claims (Branch graph root goals Idle) s) same comes
      at_first only (inr nowhere) comes = absurd nowhere

  next_by_from : (graph : Graph) (root : ℕ) (goals : List ℕ) (what : Need) (states : List State) (state : State) → IsValid program (Branch graph root goals Idle)
      → need_all program.special.truth graph root ≡ what → next_by program limits graph root goals what ≡ Go states → Among state states
      → ComesFrom program claims (Branch graph root goals Idle) state
  next_by_from graph root goals Done states state valid needed same m =
      absurd (answered_if (is_above limits (cells_of_all (spelled_all graph root goals))) limits _ states same)
  next_by_from graph root goals Dead states state valid needed same m = let no : ⊥ = cc in absurd no
  next_by_from graph root goals (Wait ids) states state valid needed same m = let no : ⊥ = cc in absurd no
  next_by_from graph root goals (At id) states state valid needed same m =
      moved_from graph root id goals (move program graph id) states state valid needed refl same m

  pub idle_from : (graph : Graph) (root : ℕ) (goals : List ℕ) (states : List State) (state : State) → IsValid program (Branch graph root goals Idle)
      → next program limits (Branch graph root goals Idle) ≡ Go states → Among state states → ComesFrom program claims (Branch graph root goals Idle) state
  unfolding next
  idle_from graph root goals states state valid same m =
      next_by_from graph root goals (need_all program.special.truth graph root) states state valid refl
      (unless_if (is_above limits (length graph)) limits (next_by program limits graph root goals (need_all program.special.truth graph root)) states same) m

-- ---- states without set functions

-- a state of a search, from the state in which it began
pub record IsOn (program : Code) (claims : List Claim) (start state : State) : Type 0 where
  pub valid : IsValid program state
  pub plain : IsWithoutSets state
  pub comes : ComesFrom program claims start state

module _ (program : Code) (claims : List Claim) (limits : Limits) (start : State) (well : is_well_formed program ≡ true) (code_plain : code_is_without_sets program ≡ true) where
  step_on : (before state : State) (states : List State) → IsOn program claims start before → next program limits before ≡ Go states → Among state states
      → IsOn program claims start state
  step_on before state states on same m = record {
    valid = follows_valid program limits well before state states on.valid same m;
    plain = next_without program limits before state states well code_plain on.valid on.plain same m;
    comes = comes_from_both program claims start before state on.comes (by before on.plain on.valid same);
  }
    where
      by : (b : State) → IsWithoutSets b → IsValid program b → next program limits b ≡ Go states → ComesFrom program claims b state
      by _ (without graph root goals all) valid is = idle_from program claims limits well graph root goals states state valid is m

  reached_by : (state : State) (onward : State → State) (event : Next) → ((after : State) → event ≡ Go (after ∷ []) → IsOn program claims start (onward after))
      → IsOn program claims start state → IsOn program claims start (elim (only_state event) as (λ x. State) [ Some after ↦ onward after | None ↦ state ])
  reached_by state onward (Go (after ∷ [])) each on = each after refl
  reached_by state onward _ each on = on

  pub reached_on_way : (more : ℕ) (state : State) → IsOn program claims start state → IsOn program claims start (reached_on more program limits state)
  unfolding reached_on
  reached_on_way zero state on = on
  reached_on_way (suc more) state on =
      reached_by state (reached_on more program limits) (next program limits state)
      (λ after is. reached_on_way more after (step_on state after (after ∷ []) on is (inl refl))) on

follows_on : (program : Code) (claims : List Claim) (limits : Limits) (start before state : State) → is_well_formed program ≡ true → code_is_without_sets program ≡ true
    → IsOn program claims start before → (event : Next) → next program limits before ≡ event → Among state (go_list event) → IsOn program claims start state
follows_on program claims limits start before state well code_plain on (Go states) is m = step_on program claims limits start well code_plain before state states on is m
follows_on program claims limits start before state well code_plain on _ is m = absurd m

pub level_on : (program : Code) (claims : List Claim) (limits : SearchLimits) (start : State) → is_well_formed program ≡ true → code_is_without_sets program ≡ true
    → IsOn program claims start start → (depth : ℕ) (state : State) → Among state (level program limits start depth) → IsOn program claims start state
unfolding level_by
level_on program claims limits start well code_plain on zero state m =
    elim m [ inl same ↦ subst (λ (s : State). IsOn program claims start s) same on | inr nowhere ↦ absurd nowhere ]
level_on program claims limits start well code_plain on (suc depth) state m =
    let found = among_flat (λ s. go_list (run limits.stride program limits.step s)) state (level_by (run limits.stride program limits.step) start depth) m in
    let before = level_on program claims limits start well code_plain on depth found.0 found.1 in
    let last = reached_on (limits.stride - 1) program limits.step found.0 in
    follows_on program claims limits.step start last state well code_plain
    (reached_on_way program claims limits.step start well code_plain (limits.stride - 1) found.0 before)
    (run limits.stride program limits.step found.0) (sym (run_reaches (limits.stride - 1) program limits.step found.0)) found.2
