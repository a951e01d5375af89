use Rattle.std.proofs.Common.{ℕ, List, map, take}
use Rattle.std.specs.List.{All, flat_map}
use Rattle.cu_entities.specs.Entities as meant
use Rattle.cu_names.specs.declared.names.NameId.{NameId}
use Rattle.cu_names.specs.Texts.{AllDiffer}
use Rattle.cu_syntax.specs.Items as items
use Rattle.cu_syntax.specs.Owners.{EntityIsOf}
use Rattle.cu_modules.specs.Faults.{import_entity_faults}
use Rattle.cu_modules.specs.Inside.Telling.{Told}
use Rattle.cu_modules.specs.Known.{AreEntities}
use Rattle.cu_modules.proofs.import_faults.tell_entries.Given as goal

abbrev pub invariant-entries : goal.invariant-entries
invariant-entries l = (owner : NameId) (names : List (List ℕ)) (es : List meant.Entity) → AllDiffer names → All (EntityIsOf owner names) l.entries → AreEntities names es l.exports
    → Told owner names l.fn.first (flat_map (import_entity_faults es) (map (items.entity_meaning names) (take l.entry-index l.entries))) l.first
