-- Several steps of a state at once: it is taken on while exactly one state follows, for at most so
-- many steps.
use Rattle.std.specs.Prelude.{ℕ, zero, suc, ◌-◌, [], ◌∷◌, Option, None, Some}
use Rattle.cu_calculus.specs.Code.{Code}
use Rattle.cu_machine.specs.declared.Limits.{Limits}
use Rattle.cu_machine.specs.Next.{Next, Go, Reading, next, read}
use Rattle.cu_machine.specs.State.{Branch, State}

-- the state that follows, where exactly one does
abbrev pub only_state : Next → Option State
only_state (Go (state ∷ [])) = Some state
only_state _ = None

-- what becomes of a state in one step and at most so many more
unfoldable pub run_on : ℕ → Code → Limits → State → Next
run_on zero code limits state = next code limits state
run_on (suc more) code limits state =
    elim (only_state (next code limits state)) [
      | Some after ↦ run_on more code limits after
      | None ↦ next code limits state
    ]

-- what becomes of a state in at most so many steps, one or more
abbrev pub run : ℕ → Code → Limits → State → Next
run steps code limits state = run_on (steps - 1) code limits state

-- the state that one reaches in at most so many steps while exactly one state follows
unfoldable pub reached_on : ℕ → Code → Limits → State → State
reached_on zero code limits state = state
reached_on (suc more) code limits state =
    elim (only_state (next code limits state))
    [ Some after ↦ reached_on more code limits after | None ↦ state ]

-- the state that a run of so many steps reaches; its own next step is the run's outcome
abbrev pub reached : ℕ → Code → Limits → State → State
reached steps code limits state = reached_on (steps - 1) code limits state

-- the answer that a state is read as
abbrev pub reading_at : State → Reading
reading_at (Branch graph root goals search) = read graph root goals
