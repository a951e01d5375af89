-- Recursion through set calls: closed walks on which a function collects the next one. A program
-- has levels exactly where it has no such walk.
use Rattle.std.specs.Prelude.{◌≡◌, ℕ, ◌≤◌, List, ◌∷◌, ◌++◌}
use Rattle.std.specs.List.{Contains}
use Rattle.cu_calculus.specs.Claims.{AreLevels, Collected}
use Rattle.cu_calculus.specs.Program.{Program}
use Rattle.cu_calculus.specs.declared.FunId.{FunId}
use Rattle.cu_lift.specs.Walks.{Has, Walk}
use Rattle.cu_lift.specs.declared.set_levels.LevelFault.TheVariants as fault
use Rattle.cu_lift.specs.declared.set_levels.LevelFault.{LevelFault}

-- A closed walk from a function, which is also the first of the list, through a set call: each
-- function of the list mentions the next one, and the last the first.
pub record IsSetCycle (program : Program) (start : FunId) (cycle : List FunId) : Type 0 where
  pub caller : FunId
  pub collected : FunId
  pub prefix : List FunId
  pub suffix : List FunId
  pub to_caller : Walk program start prefix caller
  pub call : Has program caller (Collected collected)
  pub from_collected : Walk program collected suffix start
  pub whole : cycle ≡ prefix ++ caller ∷ suffix

-- a function stands on a closed walk through a set call
abbrev pub StandsOn : Program → FunId → Type 0
StandsOn program f = (start : FunId) × (cycle : List FunId) × IsSetCycle program start cycle
    × Contains cycle f

-- the walk that is told where a program has no levels: a closed one through a set call, from the
-- first function, in program order, that stands on any
pub record IsSetRecursion (program : Program) (cycle : List FunId) : Type 0 where
  pub first : FunId
  pub is_cycle : IsSetCycle program first cycle
  pub is_first : (f : FunId) → StandsOn program f → first.0 ≤ f.0
  pub no_levels : (levels : List ℕ) → AreLevels program levels → ⊥

-- why a program has no levels; that there is no memory left is free
abbrev pub IsLevelFault : Program → LevelFault → Type 0
IsLevelFault program (fault.SetRecursion cycle) = IsSetRecursion program cycle.items
IsLevelFault program fault.NoMemory = Unit {0}
