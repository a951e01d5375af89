-- Entities of modules as numbers, under a table of names.
use Rattle.std.specs.Prelude.{◌≡◌, ℕ, ◌<◌, ◌+◌, List, [], ◌∷◌, Some, codes, length, slice_get, take}
use Rattle.cu_modules.specs.BuiltInEntities.{prelude_name, set_function_names, set_functions_name}
use Rattle.cu_modules.specs.Scopes.{Named}
use Rattle.cu_names.specs.declared.names.NameId.{NameId}
use Rattle.cu_names.specs.Texts.{AllDiffer, IsKnown, text_of}
use Rattle.cu_toplevel.specs.declared.entities.Entities.{Entities}
use Rattle.cu_toplevel.specs.Declarations.{AreListed, all_lists}
use Rattle.cu_toplevel.specs.FixityTables.{AreFixities}
use Rattle.cu_toplevel.specs.Listings.{IsListing}
use Rattle.cu_toplevel.specs.TupleTables.{AreTuples}
use Rattle.cu_translation.specs.Numbered.{Declared, declared}
use Rattle.cu_translation.specs.Parts.{counts}

-- the declarations of set functions of these names, the first for functions of n parameters, the
-- next for one more
abbrev pub sets_from : ℕ → List (List ℕ) → List Declared
sets_from n [] = []
sets_from n (name ∷ names) = declared set_functions_name name n ∷ sets_from (n + 1) names

abbrev pub set_functions : List Declared
set_functions = sets_from 0 set_function_names

-- A number is that of a text in a table.
pub record IsText (names : List (List ℕ)) (id : NameId) (text : List ℕ) : Type 0 where
  pub known : IsKnown names id
  pub is : text_of names id ≡ text

-- The entities and fixities that the code has are those of these modules.
pub record AreEntities (names : List (List ℕ)) (modules : List Named) (e : Entities) : Type 0 where
  pub differ : AllDiffer names
  pub declared : AreListed names (all_lists modules) e.declarations
  pub sets : IsListing names set_functions e.set_functions
  pub fixities : AreFixities names modules e.fixities
  pub counted : length e.starts.items ≡ length modules
  pub starts : (k : ℕ) → k < length modules
      → slice_get e.starts.items k ≡ Some (counts (take k modules))
  pub tuples : AreTuples names e.tuples
  pub prelude : IsText names e.prelude prelude_name
  pub cons : IsText names e.cons (codes ":")
