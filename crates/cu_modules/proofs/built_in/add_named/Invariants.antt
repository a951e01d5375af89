use Rattle.std.proofs.Common.{List, ◌++◌, map, take}
use Rattle.cu_entities.specs.Entities as meant
use Rattle.cu_entities.specs.EntityMeaning.{sort_meaning}
use Rattle.cu_modules.specs.BuiltInEntities.{entity}
use Rattle.cu_modules.specs.Known.{AreEntities, listed_texts}
use Rattle.cu_names.specs.Texts.{text_of}
use Rattle.cu_modules.proofs.built_in.add_named.Given as goal

abbrev pub invariant-texts : goal.invariant-texts
invariant-texts l = (before : List meant.Entity) → AreEntities l.fn.names before l.fn.entities.items
    → AreEntities l.fn.names (before ++ map (entity (text_of l.fn.names l.owner) (sort_meaning l.fn.names l.sort)) (listed_texts (take l.text-index l.texts))) l.entities.items
