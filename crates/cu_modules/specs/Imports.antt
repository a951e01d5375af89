-- What is found of the imports of modules.
use Rattle.std.specs.Prelude.{◌≡◌, ℕ, List, [], ◌∷◌, Option, None, Some, map}
use Rattle.std.specs.List.{All, flat_map}
use Rattle.cu_names.specs.declared.names.NameId.{NameId}
use Rattle.cu_names.specs.Texts.{IsKnown}
use Rattle.cu_syntax.specs.Syntax.{Import}
use Rattle.cu_modules.specs.Ordering.{texts_of}
use Rattle.cu_modules.specs.Scopes.{Named, imports_by}

abbrev pub import_texts : List Import → List (List ℕ)
import_texts imports = map (λ (i : Import). i.name.text) imports

-- the modules that the text of a module imports
abbrev pub written_in : Named → List (List ℕ)
written_in m = import_texts (flat_map imports_by m.syntax.items)

abbrev pub option_names : Option NameId → List NameId
option_names None = []
option_names (Some id) = id ∷ []

-- The names that were found are these, and a table has all of them.
pub record AreImports (names : List (List ℕ)) (texts : List (List ℕ))
    (found : List NameId) : Type 0 where
  pub are : texts_of names found ≡ texts
  pub known : All (IsKnown names) found
