use Rattle.std.proofs.Common.{ℕ, List, None, ◌++◌, map, take}
use Rattle.std.specs.List.{All, flat_map}
use Rattle.cu_entities.specs.Bindings.{Binding}
use Rattle.cu_entities.specs.Entities as meant
use Rattle.cu_names.specs.declared.names.NameId.{NameId}
use Rattle.cu_names.specs.Texts.{AllDiffer}
use Rattle.cu_syntax.specs.Items.{import_meaning}
use Rattle.cu_syntax.specs.Owners.{ImportIsOf}
use Rattle.cu_modules.specs.Inside.Binding.{IsScope}
use Rattle.cu_modules.specs.Exports.{AreInterfaces}
use Rattle.cu_modules.specs.Scopes.{Interface, binding, import_bindings}
use Rattle.cu_modules.proofs.importing.bind_imports.Given as goal

abbrev pub invariant-imports : goal.invariant-imports
invariant-imports l = (owner : NameId) (names : List (List ℕ)) (mine : List meant.Entity) (before : List Interface) (bindings : List Binding) → AllDiffer names → All (ImportIsOf owner names) l.imports
    → IsScope names (map (binding None) mine) l.own → AreInterfaces names before l.interfaces → IsScope names bindings l.fn.scope
    → IsScope names (bindings ++ flat_map (import_bindings mine before) (map (import_meaning names) (take l.import-index l.imports))) l.scope
