use Rattle.std.proofs.Common.{ℕ, List, take}
use Rattle.std.specs.List.{All, filter}
use Rattle.cu_entities.specs.EntityMeaning.{EntityIsKnown, entities_meaning}
use Rattle.cu_names.specs.declared.names.NameId.{NameId}
use Rattle.cu_names.specs.Texts.{AllDiffer}
use Rattle.cu_syntax.specs.Names.{name_meaning}
use Rattle.cu_syntax.specs.Owners.{NameIsOf}
use Rattle.cu_modules.specs.Known.{AreEntities}
use Rattle.cu_modules.proofs.ImportFaultLemmas.{is_one_of}
use Rattle.cu_modules.proofs.import_faults.constructors_beside.Given as goal

abbrev pub invariant-exports : goal.invariant-exports
invariant-exports l = (owner : NameId) (names : List (List ℕ)) → AllDiffer names → NameIsOf owner names l.name → All (EntityIsKnown names) l.exports
    → AreEntities names (filter (is_one_of (name_meaning names l.name) (entities_meaning names l.exports)) (entities_meaning names (take l.entity-index l.exports))) l.found.items
