-- States from which a solution can still be reached, and steps and levels that keep it.
use Rattle.std.specs.Prelude.{◌≡◌, ℕ, ◌<◌, Bool, true, false, List, IsTrue, Some, map, slice_get}
use Rattle.std.specs.List.{list_all}
use Rattle.cu_calculus.specs.Code.{Code}
use Rattle.cu_calculus.specs.FlatProgram.{program_of}
use Rattle.cu_calculus.specs.Gives.{Claim}
use Rattle.cu_calculus.specs.Proof.{is_claim_of}
use Rattle.cu_calculus.specs.Shape.{is_total}
use Rattle.cu_calculus.specs.Value.{Value}
use Rattle.cu_machine.specs.declared.Limits.{Limits}
use Rattle.cu_machine.specs.Among.{Among}
use Rattle.cu_machine.specs.Found.{Found}
use Rattle.cu_machine.specs.Level.{level_by}
use Rattle.cu_machine.specs.Next.{Answer, Fails, Go, Next, Reading, Stops, Waits, next}
use Rattle.cu_machine.specs.State.{Branch, State, graph_of}
use Rattle.cu_machine.specs.Validity.{IsValid}
use Rattle.cu_laws.specs.Continues.{Continues, NothingPast}
use Rattle.cu_laws.specs.Good.{Assignment, Loose}

-- the node whose value a state seeks
abbrev pub root_of : State → ℕ
root_of (Branch graph root goals search) = root

-- the nodes of a state's goal variables
abbrev pub goals_of : State → List ℕ
goals_of (Branch graph root goals search) = goals

-- ---- steps

-- The assignment promises the state an answer: it is loose, says nothing past the graph, and gives
-- the root a total value.
pub record Promises (code : Code) (claims : List Claim) (state : State)
    (assigned : Assignment) : Type 0 where
  pub loose : Loose code claims (graph_of state) assigned
  pub past : NothingPast (graph_of state) assigned
  pub total : IsTrue (is_total (assigned (root_of state)))

-- One of the states that follow loses no value: it has the same root and goal variables, and each
-- node that was there before keeps its value.
pub record SomeContinues (code : Code) (claims : List Claim) (before : State)
    (states : List State) (assigned : Assignment) : Type 0 where
  pub state : State
  pub among : Among state states
  pub roots : root_of state ≡ root_of before
  pub goals : goals_of state ≡ goals_of before
  pub later : Assignment
  pub continues : Continues code claims (graph_of before) (graph_of state) assigned later

-- Claims of the program agree with what searches find: where the search of a claim's function on
-- its arguments ends, it has found the claim's values. Claims that are true at a level do so.
pub record AgreeWithSearches (code : Code) (limits : Limits) (claims : List Claim) : Type 0 where
  pub of_program : IsTrue (list_all (is_claim_of (program_of code)) claims)
  pub agree : (k : ℕ) (claim : Claim) (values : List Value) → slice_get claims k ≡ Some claim
      → Found code limits claim.function claim.arguments values → claim.values ≡ values

-- ---- levels

-- A state that is reached from a start keeps the start's promise: its root and its goal variables
-- have the values that those of the start have.
pub record KeepsPromise (code : Code) (claims : List Claim) (start : State)
    (assigned : Assignment) (state : State) : Type 0 where
  pub later : Assignment
  pub promises : Promises code claims state later
  pub root : later (root_of state) ≡ assigned (root_of start)
  pub goals : map later (goals_of state) ≡ map assigned (goals_of start)

-- whether it is decided what becomes of a state: it neither waits nor stops
abbrev pub is_decided : Next → Bool
is_decided (Go states) = true
is_decided (Answer reading) = true
is_decided Fails = true
is_decided (Waits names) = false
is_decided (Stops stop) = false

-- What becomes of the states of all levels before a depth is decided.
abbrev pub AreDecided : (State → Next) → State → ℕ → Type 0
AreDecided event start depth =
    (k : ℕ) → k < depth → IsTrue (list_all is_decided (map event (level_by event start k)))

-- An answer keeps the start's promise: it is read off a state that does.
pub record AnswersPromise (code : Code) (limits : Limits) (claims : List Claim) (start : State)
    (assigned : Assignment) (reading : Reading) : Type 0 where
  pub state : State
  pub valid : IsValid code state
  pub answers : next code limits state ≡ Answer reading
  pub keeps : KeepsPromise code claims start assigned state

-- A state of a level before a depth has an answer that keeps the start's promise.
pub record KeptByAnswer (code : Code) (limits : Limits) (claims : List Claim)
    (event : State → Next) (start : State) (assigned : Assignment) (depth : ℕ) : Type 0 where
  pub level : ℕ
  pub earlier : level < depth
  pub state : State
  pub among : Among state (level_by event start level)
  pub reading : Reading
  pub answers : event state ≡ Answer reading
  pub answered : AnswersPromise code limits claims start assigned reading

-- A state of the level at a depth keeps the start's promise.
pub record KeptByState (code : Code) (claims : List Claim) (event : State → Next) (start : State)
    (assigned : Assignment) (depth : ℕ) : Type 0 where
  pub state : State
  pub among : Among state (level_by event start depth)
  pub keeps : KeepsPromise code claims start assigned state
