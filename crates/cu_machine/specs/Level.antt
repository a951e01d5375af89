-- The levels of the search tree: the states that are reached from the start by so many steps or
-- rounds.
use Rattle.std.specs.Prelude.{ℕ, zero, suc, List, [], ◌∷◌, flat_map}
use Rattle.cu_calculus.specs.Code.{Code}
use Rattle.cu_machine.specs.declared.Limits.{Limits}
use Rattle.cu_machine.specs.declared.SearchLimits.{SearchLimits}
use Rattle.cu_machine.specs.Next.{Next, Answer, Fails, Go, Stops, Waits, next}
use Rattle.cu_machine.specs.Run.{run}
use Rattle.cu_machine.specs.State.{State}

-- the states that follow
abbrev pub go_list : Next → List State
go_list (Go states) = states
go_list (Answer reading) = []
go_list Fails = []
go_list (Waits names) = []
go_list (Stops stop) = []

-- the states at a depth of the tree in which `event` says what becomes of a state, from left to
-- right
unfoldable pub level_by : (State → Next) → State → ℕ → List State
level_by event start zero = start ∷ []
level_by event start (suc depth) =
    flat_map (λ state. go_list (event state)) (level_by event start depth)

-- the states of a round's level, where each round takes a state on by its stride
abbrev pub level : Code → SearchLimits → State → ℕ → List State
level code limits start depth = level_by (run limits.stride code limits.step) start depth

-- the states at a depth by single steps, as an inner search has them
abbrev pub step_level : Code → Limits → State → ℕ → List State
step_level code limits start depth = level_by (next code limits) start depth
