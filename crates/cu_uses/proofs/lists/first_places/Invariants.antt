use Rattle.std.proofs.Common.{◌≡◌, ◌++◌, ℕ, List, [], drop}
use Rattle.std.specs.List.{All}
use Rattle.cu_names.specs.Texts.{AllDiffer}
use Rattle.cu_names.specs.declared.names.NameId.{NameId}
use Rattle.cu_syntax.specs.Owners.{NameIsOf}
use Rattle.cu_uses.specs.Binders.{once}
use Rattle.cu_uses.specs.Gathered.{names_meaning}
use Rattle.cu_uses.specs.Telling.{HasTexts}
use Rattle.cu_uses.proofs.lists.first_places.Given as goal

abbrev pub invariant-loop-name : goal.invariant-loop-name
invariant-loop-name l =
    (owner : NameId) (table : List (List ℕ)) → AllDiffer table → All (NameIsOf owner table) l.names
    → (seen : List (List ℕ)) × HasTexts table seen l.seen × All (NameIsOf owner table) l.found.items
    × (names_meaning table l.found.items ++ once seen (names_meaning table (drop l.name-index l.names)) ≡ once [] (names_meaning table l.names))
