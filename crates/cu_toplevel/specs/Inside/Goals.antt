-- What a program has of a goal beside its function.
use Rattle.std.specs.Prelude.{ℕ, List, length, map}
use Rattle.cu_kernel.specs.Kernel as kernel
use Rattle.cu_modules.specs.Scopes.{Named}
use Rattle.cu_syntax.specs.Syntax.{Goal}
use Rattle.cu_uses.specs.Binders.{texts}
use Rattle.cu_translation.specs.ModuleNames.{id_of}
use Rattle.cu_translation.specs.Numbered.{all_functions}

-- the goal of a program of these modules: its function has the number after theirs
abbrev pub goal_in : List (List ℕ) → List Named → Goal → kernel.Goal
goal_in table modules goal = record {
  function = record { 0 = length (all_functions modules) };
  names = map (id_of table) (texts goal.free);
}
