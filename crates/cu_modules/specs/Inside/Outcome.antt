-- What comes of one module, given the interfaces of those before it.
use Rattle.std.specs.Prelude.{◌≡◌, ℕ, List, [], ◌∷◌}
use Rattle.cu_entities.specs.declared.name_table.NameTable.{NameTable}
use Rattle.cu_entities.specs.NameTables.{Tells}
use Rattle.cu_uses.specs.Faults.{Fault, IsFirst}
use Rattle.cu_modules.specs.declared.interfaces.Interfaces.{Interfaces}
use Rattle.cu_modules.specs.Faults.{faults}
use Rattle.cu_modules.specs.Exports.{AreInterfaces}
use Rattle.cu_modules.specs.Scopes.{Interface, Named, interfaces, scope}

-- A module has no fault, a table tells its scope, and its exports were added to the interfaces.
pub record IsRight (names : List (List ℕ)) (before : List Interface) (m : Named) (table : NameTable)
    (after : Interfaces) : Type 0 where
  pub right : faults before m ≡ []
  pub tells : Tells names (scope before m) table
  pub added : AreInterfaces names (interfaces before (m ∷ [])) after

-- The first fault of a module is this one, and the module has this name.
pub record IsWrongIn (before : List Interface) (m : Named) (name : List ℕ)
    (fault : Fault) : Type 0 where
  pub is_named : name ≡ m.name
  pub is_first : IsFirst (faults before m) fault
