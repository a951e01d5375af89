-- Names that are gathered, each text once.
use Rattle.std.specs.Prelude.{◌≡◌, ℕ, List, ◌++◌, map}
use Rattle.std.specs.List.{All}
use Rattle.cu_names.specs.declared.names.NameId.{NameId}
use Rattle.cu_syntax.specs.declared.name.Name as code
use Rattle.cu_syntax.specs.Names.{name_meaning}
use Rattle.cu_syntax.specs.Owners.{NameIsOf}
use Rattle.cu_syntax.specs.Syntax.{Name}
use Rattle.cu_uses.specs.Binders.{once, texts}

-- these names, and after them those of others whose text isn't there yet
abbrev pub and_once : List Name → List Name → List Name
and_once before names = before ++ once (texts before) names

-- The names gathered grew by those of these names whose text wasn't there yet, and a table has
-- them.
pub record AddsOnce
    (owner : NameId) (table : List (List ℕ))
    (before : List code.Name) (names : List Name) (after : List code.Name) : Type 0
  where
    pub adds : All (NameIsOf owner table) before
        → map (name_meaning table) after ≡ and_once (map (name_meaning table) before) names
    pub owned : All (NameIsOf owner table) before → All (NameIsOf owner table) after
