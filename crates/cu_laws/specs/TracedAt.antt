-- Traced states: what holds of every state of a search for the values of a goal, at the goal's set
-- level.
use Rattle.std.specs.Prelude.{ℕ, List}
use Rattle.cu_calculus.specs.Claims.{level_of}
use Rattle.cu_calculus.specs.Code.{Code}
use Rattle.cu_machine.specs.declared.Limits.{Limits}
use Rattle.cu_machine.specs.Graph.{Graph}
use Rattle.cu_machine.specs.State.{Branch, Idle, MoreStates, NoState, Running}
use Rattle.cu_machine.specs.State.{Search, State, States}
use Rattle.cu_machine.specs.Validity.{IsValid}
use Rattle.cu_laws.specs.AtLevel.{IsAtLevel}
use Rattle.cu_laws.specs.Traced.{TracedSearch}

-- A state is traced at a set level. It is valid. The functions that its nodes and their code
-- mention have at most this level, and those that they mention in set calls have lower ones. A
-- search that runs in it can be traced back to the call at which it began, and each state of its
-- level is traced at the level of the function whose values it collects.
unfoldable mutual
  pub TracedAt : Code → Limits → List ℕ → ℕ → State → Type 0
  TracedAt code limits levels level (Branch graph root goals search) =
      IsValid code (Branch graph root goals search)
      × IsAtLevel code levels level graph
      × SearchTracedAt code limits levels graph search

  -- The inner search of a state with this graph, if one runs, is traced, with the states of its
  -- level.
  pub SearchTracedAt : Code → Limits → List ℕ → Graph → Search → Type 0
  SearchTracedAt code limits levels graph Idle = Unit {0}
  SearchTracedAt code limits levels graph (Running id found states) =
      (traced : TracedSearch code limits graph id found states)
      × AllTracedAt code limits levels (level_of levels traced.function) states

  -- Several states are traced at a set level.
  pub AllTracedAt : Code → Limits → List ℕ → ℕ → States → Type 0
  AllTracedAt code limits levels level NoState = Unit {0}
  AllTracedAt code limits levels level (MoreStates state states) =
      TracedAt code limits levels level state × AllTracedAt code limits levels level states
