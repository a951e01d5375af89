use Rattle.std.proofs.Common.{ℕ, List, map, take}
use Rattle.std.specs.List.{All, flat_map}
use Rattle.cu_names.specs.declared.names.NameId.{NameId}
use Rattle.cu_names.specs.Texts.{AllDiffer}
use Rattle.cu_syntax.specs.Items.{import_meaning}
use Rattle.cu_syntax.specs.Owners.{ImportIsOf}
use Rattle.cu_modules.specs.Faults.{import_faults}
use Rattle.cu_modules.specs.Exports.{AreInterfaces}
use Rattle.cu_modules.specs.Inside.Telling.{Told}
use Rattle.cu_modules.specs.Scopes.{Interface}
use Rattle.cu_modules.proofs.import_faults.tell_imports.Given as goal

abbrev pub invariant-imports : goal.invariant-imports
invariant-imports l = (owner : NameId) (names : List (List ℕ)) (before : List Interface) → AllDiffer names → All (ImportIsOf owner names) l.imports → AreInterfaces names before l.interfaces
    → Told owner names l.fn.first (flat_map (import_faults before) (map (import_meaning names) (take l.import-index l.imports))) l.first
