use Rattle.std.proofs.Common.{◌≡◌, ℕ, List, map, take}
use Rattle.std.specs.List.{flat_map}
use Rattle.cu_modules.specs.Reading.{HasModule}
use Rattle.cu_names.specs.Texts.{AllDiffer}
use Rattle.cu_syntax.specs.Answer.{item_meaning}
use Rattle.cu_translation.specs.ModuleNames.{fixities_by}
use Rattle.cu_translation.specs.Parts.{operator}
use Rattle.cu_toplevel.proofs.operators.fixity_declarations.Given as goal

abbrev pub invariant-items : goal.invariant-items
invariant-items l = (names : List (List ℕ)) → AllDiffer names → HasModule names l.«module»
    → l.operators.items ≡ map (operator names) (flat_map fixities_by (map (item_meaning names) (take l.item-index l.item-items)))
