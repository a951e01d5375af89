use Rattle.std.proofs.Common.{ℕ, List, None, map, take}
use Rattle.std.specs.List.{All, filter, flat_map}
use Rattle.cu_entities.specs.Entities as meant
use Rattle.cu_names.specs.declared.names.NameId.{NameId}
use Rattle.cu_names.specs.Texts.{AllDiffer, IsKnown, text_of}
use Rattle.cu_syntax.specs.Items.{import_meaning}
use Rattle.cu_syntax.specs.Owners.{ImportIsOf}
use Rattle.cu_modules.specs.Inside.Binding.{IsScope}
use Rattle.cu_modules.specs.Exports.{AreInterfaces}
use Rattle.cu_modules.specs.Known.{AreEntities}
use Rattle.cu_modules.specs.Scopes.{Interface, binding, names_module, unqualified}
use Rattle.cu_modules.proofs.listing.module_exports.Given as goal

abbrev pub invariant-imports : goal.invariant-imports
invariant-imports l = (owner : NameId) (names : List (List ℕ)) (mine : List meant.Entity) (before : List Interface) → AllDiffer names → IsKnown names l.name
    → All (ImportIsOf owner names) l.imports → IsScope names (map (binding None) mine) l.own → AreInterfaces names before l.interfaces
    → AreEntities names (flat_map (unqualified mine before) (filter (names_module (text_of names l.name)) (map (import_meaning names) (take l.import-index l.imports)))) l.all.items
