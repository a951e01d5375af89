use Rattle.std.proofs.Common.{◌≡◌, ℕ, List, map, take}
use Rattle.std.specs.List.{flat_map}
use Rattle.cu_kernel.specs.KernelOf as code
use Rattle.cu_syntax.specs.Answer.{item_meaning}
use Rattle.cu_toplevel.specs.Readings.{IsReading}
use Rattle.cu_translation.specs.ModuleTypes.{Reading, synonyms_by}
use Rattle.cu_toplevel.proofs.module_types.synonyms_in.Given as goal

abbrev pub invariant-items : goal.invariant-items
invariant-items l = (names : List (List ℕ)) (r : Reading) → IsReading names r l.reading
    → map code.synonym_meaning l.synonyms.items ≡ flat_map (synonyms_by r) (map (item_meaning names) (take l.item-index l.item-items))
