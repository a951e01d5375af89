use Rattle.std.proofs.Common.{List, ◌++◌, take}
use Rattle.std.specs.List.{flat_map}
use Rattle.cu_entities.specs.Entities as meant
use Rattle.cu_modules.specs.BuiltInEntities.{single_type}
use Rattle.cu_modules.specs.Known.{AreEntities, listed_texts}
use Rattle.cu_modules.proofs.built_in.add_single_types.Given as goal

abbrev pub invariant-types : goal.invariant-types
invariant-types l = (before : List meant.Entity) → AreEntities l.fn.names before l.fn.entities.items
    → AreEntities l.fn.names (before ++ flat_map single_type (listed_texts (take l.text-index l.texts))) l.entities.items
