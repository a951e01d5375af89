-- What the code finds of a program's levels.
use Rattle.std.specs.Prelude.{ℕ, Result, Ok, Err}
use Rattle.std.specs.declared.alloc.Global.{Global}
use Rattle.std.specs.declared.vec.Vec.{Vec}
use Rattle.cu_calculus.specs.Claims.{AreLeastLevels}
use Rattle.cu_calculus.specs.Program.{Program}
use Rattle.cu_calculus.specs.declared.FunId.{FunId}
use Rattle.cu_lift.specs.SetCycles.{IsSetRecursion}

-- the least levels, or a cycle
abbrev pub AreLevelsOrCycle : Program → Result (Vec ℕ Global) (Vec FunId Global) → Type 0
AreLevelsOrCycle program (Ok levels) = AreLeastLevels program levels.items
AreLevelsOrCycle program (Err cycle) = IsSetRecursion program cycle.items
