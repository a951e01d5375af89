-- What patterns declare, and what is found of it.
use Rattle.std.specs.Prelude.{◌≡◌, ℕ, List, ◌++◌, map}
use Rattle.cu_lex.specs.Located as located
use Rattle.cu_syntax.specs.declared.patterns.ConstructorItem.{ConstructorItem}
use Rattle.cu_syntax.specs.declared.patterns.Pattern.{Pattern}
use Rattle.cu_syntax.specs.Patterns.{pattern_meaning, patterns_meaning, rest_meaning}
use Rattle.cu_syntax.specs.Syntax.{Name}
use Rattle.cu_translation.specs.declared.position.Position.{Position}
use Rattle.cu_translation.specs.Meaning.{position_meaning}
use Rattle.cu_translation.specs.Numbering.{all_places, declared_places, places_after}
use Rattle.cu_uses.specs.Gathered.{Adds}
use Rattle.cu_locals.specs.declared.declared.Declared.{Declared}
use Rattle.cu_locals.specs.Text.{Text}

abbrev pub positions_meaning : List Position → List located.Position
positions_meaning places = map position_meaning places

unfoldable pub pattern_places : List (List ℕ) → Pattern → List located.Position
pattern_places names p = declared_places (pattern_meaning names p)

unfoldable pub patterns_place : List (List ℕ) → List Pattern → List located.Position
patterns_place names ps = all_places (patterns_meaning names ps)

unfoldable pub operands_place : List (List ℕ) → List ConstructorItem → List located.Position
operands_place names items = places_after (rest_meaning names items)

-- What was found of patterns grew by these variables, and by the places of these variables and
-- wildcards.
pub record Finds (t : Text) (before : Declared) (binds : List Name)
    (places : List located.Position) (after : Declared) : Type 0 where
  pub names : Adds t.owner t.names before.names.items binds after.names.items
  pub places_are : positions_meaning after.places.items
      ≡ positions_meaning before.places.items ++ places
