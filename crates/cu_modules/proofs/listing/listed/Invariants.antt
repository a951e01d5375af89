use Rattle.std.proofs.Common.{ℕ, List, map, take}
use Rattle.std.specs.List.{All, flat_map}
use Rattle.cu_names.specs.Texts.{AllDiffer}
use Rattle.cu_syntax.specs.Items.{export_meaning}
use Rattle.cu_syntax.specs.Owners.{ExportIsOf}
use Rattle.cu_modules.specs.Exports.{AreInterfaces}
use Rattle.cu_modules.specs.Inside.Scoped.{IsScoped}
use Rattle.cu_modules.specs.Known.{AreEntities}
use Rattle.cu_modules.specs.Ordering.{module_of}
use Rattle.cu_modules.specs.Reading.{HasModule}
use Rattle.cu_modules.specs.Scopes.{Interface, exports_by}
use Rattle.cu_modules.proofs.listing.listed.Given as goal

abbrev pub invariant-exports : goal.invariant-exports
invariant-exports l = (names : List (List ℕ)) (before : List Interface) → AllDiffer names → HasModule names l.«module» → AreInterfaces names before l.interfaces
    → IsScoped names before l.«module» l.scoped → All (ExportIsOf l.«module».name names) l.exports
    → AreEntities names (flat_map (exports_by before (module_of names l.«module»)) (map (export_meaning names) (take l.export-index l.exports))) l.all.items
