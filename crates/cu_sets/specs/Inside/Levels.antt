-- What became of the branches of a level, from left to right.
use Rattle.std.specs.Prelude.{List, ◌++◌, map}
use Rattle.cu_calculus.specs.Value.{Value}
use Rattle.cu_graph.specs.declared.store.Store.{Ghosts}
use Rattle.cu_machine.specs.Graph.{Graph}
use Rattle.cu_machine.specs.Next.{Blocked, Halts, LevelEvent, On}
use Rattle.cu_machine.specs.State.{State}
use Rattle.cu_step.specs.Outcome.{state_of}
use Rattle.cu_sets.specs.declared.level.Ending.{Ending}
use Rattle.cu_sets.specs.declared.level.Ending.TheVariants as ending
use Rattle.cu_sets.specs.declared.level.Level as code

-- What is gathered so far of a level that is being stepped: the values that were found, and the
-- states of the next level.
pub record Level : Type 0 where
  pub values : List Value
  pub states : List State

-- what a level of the code has gathered
abbrev pub level_of : {S : Type 0} {G : Ghosts S} → (S → Graph) → code.Level S G → Level
level_of content level =
    record { values = level.values.items; states = map (state_of content) level.branches.items }

-- what became of a level whose first branches gave this, and whose other branches come to `event`
abbrev pub before : Level → LevelEvent → LevelEvent
before level (On values states) = On (level.values ++ values) (level.states ++ states)
before level Blocked = Blocked
before level (Halts stop) = Halts stop

-- what became of a level that ended the search
abbrev pub ended : Ending → LevelEvent
ended ending.Blocked = Blocked
ended (ending.Halted stop) = Halts stop
