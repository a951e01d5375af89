-- What imports of the code stand for, under a table of names.
use Rattle.std.specs.Prelude.{◌≡◌, ℕ, List, [], ◌∷◌, Option, None, Some, map}
use Rattle.std.specs.List.{All}
use Rattle.cu_names.specs.declared.names.NameId.{NameId}
use Rattle.cu_syntax.specs.declared.items.Import.{Import}
use Rattle.cu_syntax.specs.Items.{import_meaning}
use Rattle.cu_syntax.specs.Owners.{ImportIsOf}
use Rattle.cu_syntax.specs.Syntax as syntax

-- The imports that the code found are these, and they are of the module.
pub record AreImportsOf (owner : NameId) (names : List (List ℕ)) (meant : List syntax.Import)
    (found : List Import) : Type 0 where
  pub are : map (import_meaning names) found ≡ meant
  pub owned : All (ImportIsOf owner names) found

abbrev pub option_imports : Option Import → List Import
option_imports None = []
option_imports (Some i) = i ∷ []
