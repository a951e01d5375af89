-- What a module, or a goal, is translated to, or why it is refused. Clashes of operators are told
-- before all else.
use Rattle.std.specs.Prelude.{◌≡◌, ℕ, List, Option, None, Some}
use Rattle.std.specs.List.{flat_map}
use Rattle.cu_kernel.specs.LocalKernel.{LocalKernel}
use Rattle.cu_syntax.specs.Syntax.{Goal}
use Rattle.cu_modules.specs.Scopes.{Named}
use Rattle.cu_translation.specs.FaultOrder.{Fault, first_fault}
use Rattle.cu_translation.specs.Faults.{goal_clashes, goal_faults, group_clashes, group_faults}
use Rattle.cu_translation.specs.ModuleNames.{module_at, names_in}
use Rattle.cu_translation.specs.Numbered.{groups_in}
use Rattle.cu_translation.specs.Parts.{goal_names, goal_part, module_part}

pub data Outcome : Type 0 where
  Translated : LocalKernel → Outcome
  Refused : Fault → Outcome

-- the first clash, or else the first of the other faults, or else the translation
abbrev pub outcome : Option Fault → Option Fault → LocalKernel → Outcome
outcome (Some clash) other part = Refused clash
outcome None (Some other) part = Refused other
outcome None None part = Translated part

-- What the module of a number is translated to, under a table of names. Each of the modules stands
-- after those that it imports, and nothing is wrong with names in them.
abbrev pub translation : List (List ℕ) → List Named → ℕ → Outcome
translation table modules number =
    outcome (first_fault
    (flat_map (group_clashes (names_in table modules number))
    (groups_in (module_at modules number))))
    (first_fault (flat_map (group_faults (names_in table modules number))
    (groups_in (module_at modules number))))
    (module_part table modules number)

-- what a goal is translated to in the module of a number
abbrev pub goal_translation : List (List ℕ) → List Named → ℕ → Goal → Outcome
goal_translation table modules root goal =
    outcome (first_fault (goal_clashes (goal_names table modules root) goal))
    (first_fault (goal_faults (goal_names table modules root) goal))
    (goal_part table modules root goal)

abbrev pub Translates : List (List ℕ) → List Named → ℕ → Outcome → Type 0
Translates table modules number result = result ≡ translation table modules number

abbrev pub GoalTranslates : List (List ℕ) → List Named → ℕ → Goal → Outcome → Type 0
GoalTranslates table modules root goal result = result ≡ goal_translation table modules root goal
