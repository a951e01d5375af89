-- The names that patterns and types have, and what the code finds of them.
use Rattle.std.specs.Prelude.{◌≡◌, ℕ, List, ◌++◌, map}
use Rattle.std.specs.List.{All}
use Rattle.cu_names.specs.declared.names.NameId.{NameId}
use Rattle.cu_syntax.specs.declared.name.Name as code
use Rattle.cu_syntax.specs.declared.patterns.ConstructorItem.{ConstructorItem}
use Rattle.cu_syntax.specs.declared.patterns.Pattern.{Pattern}
use Rattle.cu_syntax.specs.declared.types.TypeTerm.{TypeTerm}
use Rattle.cu_syntax.specs.Names.{name_meaning}
use Rattle.cu_syntax.specs.Owners.{NameIsOf}
use Rattle.cu_syntax.specs.Patterns.{pattern_meaning, patterns_meaning, rest_meaning}
use Rattle.cu_syntax.specs.Syntax.{Name}
use Rattle.cu_syntax.specs.Types.{type_meaning, types_meaning}
use Rattle.cu_uses.specs.declared.found.Found.{Found}
use Rattle.cu_uses.specs.Binders.{all_type_constructors, all_type_variables, constructors, constructors_after, pattern_constructors, pattern_variables, type_constructors, type_variables, variables, variables_after}

abbrev pub names_meaning : List (List ℕ) → List code.Name → List Name
names_meaning names found = map (name_meaning names) found

unfoldable pub pattern_binds : List (List ℕ) → Pattern → List Name
pattern_binds names p = pattern_variables (pattern_meaning names p)

unfoldable pub pattern_builds : List (List ℕ) → Pattern → List Name
pattern_builds names p = pattern_constructors (pattern_meaning names p)

unfoldable pub patterns_bind : List (List ℕ) → List Pattern → List Name
patterns_bind names ps = variables (patterns_meaning names ps)

unfoldable pub patterns_build : List (List ℕ) → List Pattern → List Name
patterns_build names ps = constructors (patterns_meaning names ps)

unfoldable pub operands_bind : List (List ℕ) → List ConstructorItem → List Name
operands_bind names items = variables_after (rest_meaning names items)

unfoldable pub operands_build : List (List ℕ) → List ConstructorItem → List Name
operands_build names items = constructors_after (rest_meaning names items)

unfoldable pub type_binds : List (List ℕ) → TypeTerm → List Name
type_binds names t = type_variables (type_meaning names t)

unfoldable pub type_builds : List (List ℕ) → TypeTerm → List Name
type_builds names t = type_constructors (type_meaning names t)

unfoldable pub types_bind : List (List ℕ) → List TypeTerm → List Name
types_bind names ts = all_type_variables (types_meaning names ts)

unfoldable pub types_build : List (List ℕ) → List TypeTerm → List Name
types_build names ts = all_type_constructors (types_meaning names ts)

-- A list of names grew by these, which are of the module and in the table.
pub record Adds (owner : NameId) (names : List (List ℕ)) (before : List code.Name)
    (added : List Name) (after : List code.Name) : Type 0 where
  pub adds : names_meaning names after ≡ names_meaning names before ++ added
  pub owned : All (NameIsOf owner names) before → All (NameIsOf owner names) after

-- What was found grew by these variables and these constructors.
pub record Finds (owner : NameId) (names : List (List ℕ)) (before : Found)
    (binds builds : List Name) (after : Found) : Type 0 where
  pub variables : Adds owner names before.variables.items binds after.variables.items
  pub constructors : Adds owner names before.constructors.items builds after.constructors.items
