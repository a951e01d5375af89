-- The texts that a table of names has to have for modules and a goal.
use Rattle.std.specs.Prelude.{ℕ, List, ◌++◌, map}
use Rattle.std.specs.List.{All, Contains}
use Rattle.cu_syntax.specs.Syntax.{Goal}
use Rattle.cu_names.specs.Texts.{AllDiffer}
use Rattle.cu_modules.specs.Scopes.{Named}
use Rattle.cu_translation.specs.Numbered.{Declared, all_constructors, all_functions, all_synonyms, all_types}
use Rattle.cu_translation.specs.Functions.{goal_name}
use Rattle.cu_uses.specs.Binders.{texts}

-- the names of what is declared
abbrev pub declared_names : List Declared → List (List ℕ)
declared_names ds = map (λ (d : Declared). d.name) ds

-- the names of modules, and of all that they declare
abbrev pub names_of : List Named → List (List ℕ)
names_of modules =
    map (λ (m : Named). m.name) modules ++
    (declared_names (all_types modules) ++
    (declared_names (all_constructors modules) ++
    (declared_names (all_functions modules) ++ declared_names (all_synonyms modules))))

-- The table has each text once, and the names of modules and of what they declare among them.
pub record IsTable (modules : List Named) (table : List (List ℕ)) : Type 0 where
  pub differ : AllDiffer table
  pub has : All (Contains table) (names_of modules)

-- The table has the names of modules, the name of goals, and the names of this goal's free
-- variables.
pub record IsGoalTable (modules : List Named) (goal : Goal) (table : List (List ℕ)) : Type 0 where
  pub of_modules : IsTable modules table
  pub name : Contains table goal_name
  pub variables : All (Contains table) (texts goal.free)
