use Rattle.std.proofs.Common.{ℕ, List, take}
use Rattle.std.specs.List.{All, flat_map}
use Rattle.cu_entities.specs.EntityMeaning.{EntityIsKnown, entities_meaning}
use Rattle.cu_names.specs.Texts.{AllDiffer}
use Rattle.cu_uses.specs.Telling.{HasTexts}
use Rattle.cu_modules.proofs.ExportFaultLemmas.{value_text}
use Rattle.cu_modules.proofs.checking.own_values.Given as goal

abbrev pub invariant-own : goal.invariant-own
invariant-own l = (names : List (List ℕ)) → AllDiffer names → All (EntityIsKnown names) l.own
    → HasTexts names (flat_map value_text (entities_meaning names (take l.entity-index l.own))) l.values
