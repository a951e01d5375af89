-- One step of a state: the states that follow, or how its branch ends.
use Rattle.std.specs.Prelude.{ℕ, ◌+◌, Bool, List, [], ◌∷◌, ◌++◌, Option, None, Some, if◌then◌else◌, nat_eq, nat_lt, length, map}
use Rattle.std.specs.List.{list_any}
use Rattle.cu_calculus.specs.Code.{Code}
use Rattle.cu_calculus.specs.Gives.{listed}
use Rattle.cu_calculus.specs.Shape.{is_ground}
use Rattle.cu_calculus.specs.Value as value
use Rattle.cu_calculus.specs.Value.{Value, Values, values_of}
use Rattle.cu_machine.specs.declared.Limits.{Limits}
use Rattle.cu_machine.specs.declared.Stop.{Stop}
use Rattle.cu_machine.specs.declared.Stop.TheVariants.{Overflow, TooLarge, TooWide}
use Rattle.cu_machine.specs.declared.Waited.{Waited}
use Rattle.cu_machine.specs.declared.Waited.TheVariants.{Named, Other}
use Rattle.cu_machine.specs.Build.{written}
use Rattle.cu_machine.specs.Graph.{Graph, head_of, put, stuck}
use Rattle.cu_machine.specs.Need.{Need, At, Dead, Done, Wait, need_all}
use Rattle.cu_machine.specs.Rewrite.{Become, Collect, Move, Overflows, move}
use Rattle.cu_machine.specs.Sort.{sorted}
use Rattle.cu_machine.specs.Spell.{cells_of_all, ordinal, push_value, renumbered, spelled, variables_of_all}
use Rattle.cu_machine.specs.State.{Branch, Idle, MoreStates, NoState, Running, State, States, call_on, graph_of, states_of}

-- what is read off a state whose value is there: the values of the goal variables, and the value
pub record Reading : Type 0 where
  pub bindings : List Value
  pub value : Value

-- what becomes of a state in one step
pub data Next : Type 0 where
  -- These states follow, from left to right.
  Go : List State → Next
  Answer : Reading → Next
  Fails : Next
  Waits : List Waited → Next
  Stops : Stop → Next

-- ---- reading

-- what the goal variables and then the root spell
abbrev pub spelled_all : Graph → ℕ → List ℕ → List Value
spelled_all graph root goals = map (spelled graph) (goals ++ root ∷ [])

-- The answer that a state is read as. Free variables are numbered from 1, in the order in which
-- they are met in the bindings and then in the value.
abbrev pub read : Graph → ℕ → List ℕ → Reading
read graph root goals =
    let number = ordinal (variables_of_all (spelled_all graph root goals)) in
    record {
      bindings = map (λ goal. renumbered number (spelled graph goal)) goals;
      value = renumbered number (spelled graph root);
    }

-- ---- waiting

-- the number of the first goal variable that stands for a free variable, counted from 0
abbrev pub goal_for : Graph → List ℕ → ℕ → Option ℕ
goal_for graph [] id = None
goal_for graph (goal ∷ goals) id =
    if nat_eq (head_of graph goal) id then Some 0
    else elim (goal_for graph goals id) [ Some k ↦ Some (k + 1) | None ↦ None ]

-- the names of the free variables that are waited for: goal variables by their numbers, and the
-- others by numbers from `next` on
abbrev pub named : Graph → List ℕ → ℕ → List ℕ → List Waited
named graph goals next [] = []
named graph goals next (id ∷ ids) = elim (goal_for graph goals id) [
  | Some k ↦ Named k ∷ named graph goals next ids
  | None ↦ Other next ∷ named graph goals (next + 1) ids
]

-- ---- limits

-- the stop for too many nodes or cells, whose count ends at one more than the limit
abbrev pub too_large : Limits → Next
too_large limits = Stops (TooLarge (limits.nodes + 1))

-- whether a number of nodes or cells is above the limit
abbrev pub is_above : Limits → ℕ → Bool
is_above limits n = nat_lt limits.nodes n

-- whether a state has more nodes than the limit
abbrev pub is_too_large : Limits → State → Bool
is_too_large limits state = is_above limits (length (graph_of state))

-- these states follow, unless one of them has more nodes than the limit
abbrev pub unless_one_is_large : Limits → List State → Next
unless_one_is_large limits states = if list_any (is_too_large limits) states then too_large limits
    else Go states

-- ---- a state without a running search

-- an answer, unless it has more cells than the limit
abbrev pub answered : Limits → Graph → ℕ → List ℕ → Next
answered limits graph root goals =
    if is_above limits (cells_of_all (spelled_all graph root goals)) then too_large limits
    else Answer (read graph root goals)

-- the step in which the search for all values of a function begins, at the call `id`
abbrev pub begun : Limits → Graph → ℕ → List ℕ → ℕ → State → Next
begun limits graph root goals id inner =
    if is_too_large limits inner then too_large limits
    else Go (Branch graph root goals (Running id [] (MoreStates inner NoState)) ∷ [])

-- what follows a move of the graph, where no search runs in the state
abbrev pub moved : Code → Limits → ℕ → List ℕ → Graph → ℕ → Move → Next
moved code limits root goals graph id (Become graphs) =
    unless_one_is_large limits (map (λ after. Branch after root goals Idle) graphs)
moved code limits root goals graph id (Overflows operation m n) = Stops (Overflow operation m n)
moved code limits root goals graph id (Collect f arguments) =
    begun limits graph root goals id (call_on code f arguments)

-- what becomes of a state in which no search runs, by what its root needs
abbrev pub next_by : Code → Limits → Graph → ℕ → List ℕ → Need → Next
next_by code limits graph root goals Done = answered limits graph root goals
next_by code limits graph root goals Dead = Fails
next_by code limits graph root goals (Wait ids) = Waits (named graph goals 1 ids)
next_by code limits graph root goals (At id) =
    moved code limits root goals graph id (move code graph id)

-- ---- a running search

-- What became of an inner level: the values that were found and the states that follow, or what
-- ends the search.
pub data LevelEvent : Type 0 where
  On : List Value → List State → LevelEvent
  -- A state waits, or gave an answer that isn't ground data.
  Blocked : LevelEvent
  Halts : Stop → LevelEvent

-- what became of a level, with one more value that was found in its first state
abbrev pub with_found : Value → LevelEvent → LevelEvent
with_found v (On values states) = On (v ∷ values) states
with_found v Blocked = Blocked
with_found v (Halts stop) = Halts stop

-- what became of a level, with the states that follow its first state before the others
abbrev pub with_states : List State → LevelEvent → LevelEvent
with_states prefix (On values states) = On values (prefix ++ states)
with_states prefix Blocked = Blocked
with_states prefix (Halts stop) = Halts stop

-- What becomes of a level whose first state has this outcome, and whose other states come to
-- `others`. The first state from the left that blocks or stops decides.
abbrev pub with_outcome : Next → LevelEvent → LevelEvent
with_outcome (Stops stop) others = Halts stop
with_outcome (Waits names) others = Blocked
with_outcome (Answer reading) others = if is_ground reading.value
    then with_found reading.value others else Blocked
with_outcome Fails others = others
with_outcome (Go states) others = with_states states others

-- the graph in which the call becomes its value: the constructor of the values of set functions, on
-- the list of the found values, sorted and without repeats
abbrev pub delivered : Code → Graph → ℕ → List Value → Graph
delivered code graph id found = elim code.special.values [
  | Some c ↦ written graph id (push_value (length graph)
      (value.Constructed c
      (value.MoreValues (listed code.special.nil code.special.cons (sorted found))
      value.NoValue)))
  | None ↦ put graph id stuck
]

-- what becomes of a state in which one inner level was stepped
abbrev pub after_level : Limits → Graph → ℕ → List ℕ → ℕ → List Value → LevelEvent → Next
after_level limits graph root goals id found Blocked =
    Go (Branch (put graph id stuck) root goals Idle ∷ [])
after_level limits graph root goals id found (Halts stop) = Stops stop
after_level limits graph root goals id found (On values states) =
    if nat_lt limits.width (length states) then Stops (TooWide (length states))
    else Go (Branch graph root goals (Running id (found ++ values) (states_of states)) ∷ [])

-- what becomes of a state in which a search runs, whose level's states come to `inner`; an empty
-- level ends the search
abbrev pub searched : Code → Limits → Graph → ℕ → List ℕ → ℕ → List Value → States → LevelEvent
    → Next
searched code limits graph root goals id found NoState inner =
    unless_one_is_large limits (Branch (delivered code graph id found) root goals Idle ∷ [])
searched code limits graph root goals id found (MoreStates state states) inner =
    after_level limits graph root goals id found inner

-- ---- all states

-- what becomes of a state, unless its graph has more nodes than the limit
abbrev pub unless_too_large : Limits → Graph → Next → Next
unless_too_large limits graph next = if is_above limits (length graph) then too_large limits
    else next

-- what becomes of a state in one step
unfoldable mutual
  pub next : Code → Limits → State → Next
  next code limits (Branch graph root goals Idle) =
      unless_too_large limits graph
      (next_by code limits graph root goals (need_all code.special.truth graph root))
  next code limits (Branch graph root goals (Running id found level)) =
      unless_too_large limits graph
      (searched code limits graph root goals id found level (stepped code limits level))

  -- what becomes of an inner level, whose states are each stepped once
  pub stepped : Code → Limits → States → LevelEvent
  stepped code limits NoState = On [] []
  stepped code limits (MoreStates state states) =
      with_outcome (next code limits state) (stepped code limits states)
