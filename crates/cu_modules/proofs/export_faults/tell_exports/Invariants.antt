use Rattle.std.proofs.Common.{ℕ, List, map, take}
use Rattle.std.specs.List.{All, flat_map}
use Rattle.cu_names.specs.Texts.{AllDiffer}
use Rattle.cu_syntax.specs.Items.{export_meaning}
use Rattle.cu_syntax.specs.Owners.{ExportIsOf}
use Rattle.cu_modules.specs.Faults.{export_faults}
use Rattle.cu_modules.specs.Inside.Scoped.{IsScoped}
use Rattle.cu_modules.specs.Inside.Telling.{Told}
use Rattle.cu_modules.specs.Ordering.{module_of}
use Rattle.cu_modules.specs.Reading.{HasModule}
use Rattle.cu_modules.specs.Scopes.{Interface}
use Rattle.cu_modules.proofs.export_faults.tell_exports.Given as goal

abbrev pub invariant-exports : goal.invariant-exports
invariant-exports l = (names : List (List ℕ)) (before : List Interface) → AllDiffer names → HasModule names l.«module» → IsScoped names before l.«module» l.scoped → All (ExportIsOf l.«module».name names) l.exports
    → Told l.«module».name names l.fn.first (flat_map (export_faults before (module_of names l.«module»)) (map (export_meaning names) (take l.export-index l.exports))) l.first
