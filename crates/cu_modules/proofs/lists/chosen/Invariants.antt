use Rattle.std.proofs.Common.{ℕ, List, take}
use Rattle.std.specs.List.{All, filter}
use Rattle.cu_entities.specs.EntityMeaning.{EntityIsKnown, entities_meaning}
use Rattle.cu_modules.specs.Known.{AreEntities}
use Rattle.cu_modules.proofs.ListLemmas.{is_taken}
use Rattle.cu_names.specs.Texts.{AllDiffer}
use Rattle.cu_names.specs.declared.names.NameId.{NameId}
use Rattle.cu_syntax.specs.Items.{import_list_meaning}
use Rattle.cu_syntax.specs.Owners.{ImportListIsOf}
use Rattle.cu_modules.proofs.lists.chosen.Given as goal

abbrev pub invariant-exports : goal.invariant-exports
invariant-exports l = (owner : NameId) (names : List (List ℕ)) → AllDiffer names → ImportListIsOf owner names l.list → All (EntityIsKnown names) l.exports
    → AreEntities names (filter (is_taken (import_list_meaning names l.list) (entities_meaning names l.exports)) (entities_meaning names (take l.entity-index l.exports))) l.kept.items
