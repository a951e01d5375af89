-- The states and events that the code's branches and outcomes stand for, however their graphs are
-- kept: `content` says which nodes a store has.
use Rattle.std.specs.Prelude.{Bool, true, false, ℕ, List, [], ◌∷◌, map}
use Rattle.cu_graph.specs.declared.store.Store.{Ghosts}
use Rattle.cu_machine.specs.Graph.{Graph}
use Rattle.cu_machine.specs.Next as next
use Rattle.cu_machine.specs.Next.{Next}
use Rattle.cu_machine.specs.State as state
use Rattle.cu_machine.specs.State.{MoreStates, NoState, State, States, states_of}
use Rattle.cu_step.specs.declared.branch.BranchOver.{BranchOver}
use Rattle.cu_step.specs.declared.branch.Running.{Running}
use Rattle.cu_step.specs.declared.branch.Search as search
use Rattle.cu_step.specs.declared.branch.Search.{Row_of-BranchOver, Search}
use Rattle.cu_step.specs.declared.focus.Focus.{Focus}
use Rattle.cu_step.specs.declared.Outcome.{Outcome}
use Rattle.cu_step.specs.declared.Outcome.TheVariants as outcome
use Rattle.cu_step.specs.declared.read.Reading.{Reading}

-- the search that a search of the code stands for, and the states of its level, where `graph` and
-- `root` say which graph and which root a branch has
abbrev mutual
  pub search_over : {F : Type 0} → (F → Graph) → (F → ℕ) → Search F → state.Search
  search_over graph root search.Idle = state.Idle
  search_over graph root (search.Running' call found shape level) =
      state.Running call found.items (row_over graph root level)

  -- the states that the level of a search of the code stands for
  pub row_over : {F : Type 0} → (F → Graph) → (F → ℕ) → {n : _} → Row_of-BranchOver F n → States
  row_over graph root search.end_of-BranchOver = NoState
  row_over graph root (search.more_of-BranchOver focus goals inner level) =
      MoreStates (state.Branch (graph focus) (root focus) goals.items
      (search_over graph root inner))
      (row_over graph root level)

-- The search that a search of the code stands for. The walks that its branches keep count for
-- nothing.
abbrev pub search_of : {S : Type 0} {G : Ghosts S} → (S → Graph) → Search (Focus S G)
    → state.Search
search_of content inner = search_over (λ f. content f.store) (λ f. f.root) inner

-- The state that a branch of the code stands for. The walk that it keeps counts for nothing.
abbrev pub state_of : {S : Type 0} {G : Ghosts S} → (S → Graph) → BranchOver (Focus S G) → State
state_of content branch =
    state.Branch (content branch.focus.store) branch.focus.root branch.goals.items
    (search_of content branch.search)

-- the state that a branch stands for in which a search runs and which was taken apart
abbrev pub running_state : {S : Type 0} {G : Ghosts S} → (S → Graph) → Running S G → State
running_state content running =
    state.Branch (content running.store) running.root running.goals.items
    (state.Running running.call running.found.items
    (states_of (map (state_of content) running.level.items)))

-- whether a search runs in a state
abbrev pub is_running : State → Bool
is_running (state.Branch graph root goals state.Idle) = false
is_running (state.Branch graph root goals (state.Running id found level)) = true

-- the reading that a reading of the code stands for
abbrev pub reading_of : Reading → next.Reading
reading_of reading = record { bindings = reading.bindings.items; value = reading.value }

-- The event that an outcome of the code stands for. A branch in which a search runs is given back
-- as it was, and counts as going on so; what follows it is told by whoever steps the search.
abbrev pub next_of : {S : Type 0} {G : Ghosts S} → (S → Graph) → Outcome S G → Next
next_of content (outcome.On branch) = next.Go (state_of content branch ∷ [])
next_of content (outcome.Go branches) = next.Go (map (state_of content) branches.items)
next_of content (outcome.Answer reading) = next.Answer (reading_of reading)
next_of content outcome.Fail = next.Fails
next_of content (outcome.Wait names) = next.Waits names.items
next_of content (outcome.Stop stop) = next.Stops stop
next_of content (outcome.Inner branch) = next.Go (state_of content branch ∷ [])

-- the branches that go on after an outcome
abbrev pub branches_of : {S : Type 0} {G : Ghosts S} → Outcome S G
    → List (BranchOver (Focus S G))
branches_of (outcome.On branch) = branch ∷ []
branches_of (outcome.Go branches) = branches.items
branches_of (outcome.Inner branch) = branch ∷ []
branches_of _ = []

-- whether an outcome gives back a branch in which a search runs
abbrev pub is_inner : {S : Type 0} {G : Ghosts S} → Outcome S G → Bool
is_inner (outcome.Inner branch) = true
is_inner _ = false
