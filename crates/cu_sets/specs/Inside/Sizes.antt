-- How much there is to step in a state: its searches, the states of their levels, and the searches
-- in these.
use Rattle.std.specs.Prelude.{ℕ, ◌+◌}
use Rattle.cu_machine.specs.State.{Branch, Idle, MoreStates, NoState, Running, State, States}

abbrev mutual
  -- the size of a state: what its search takes, if one runs
  pub size : State → ℕ
  size (Branch graph root goals Idle) = 1
  size (Branch graph root goals (Running id found level)) = total_size level + 2

  -- the size of several states, with 1 for each
  pub total_size : States → ℕ
  total_size NoState = 0
  total_size (MoreStates state states) = size state + total_size states + 1
