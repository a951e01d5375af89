use Rattle.std.proofs.Common.{ℕ, List, map, take}
use Rattle.std.specs.List.{All, filter}
use Rattle.cu_entities.specs.Bindings.{entities_of}
use Rattle.cu_entities.specs.NameTables.{KeyIsKnown}
use Rattle.cu_names.specs.Texts.{AllDiffer}
use Rattle.cu_modules.specs.Inside.Binding.{BoundIsKnown, bound_meaning}
use Rattle.cu_modules.specs.Inside.Exporting.{is_key}
use Rattle.cu_modules.specs.Known.{AreEntities}
use Rattle.cu_modules.proofs.listing.matching.Given as goal

abbrev pub invariant-bound : goal.invariant-bound
invariant-bound l = (names : List (List ℕ)) → AllDiffer names → All (BoundIsKnown names) l.bound → KeyIsKnown names l.key
    → AreEntities names (entities_of (filter (is_key names l.key) (map (bound_meaning names) (take l.one-index l.bound)))) l.found.items
