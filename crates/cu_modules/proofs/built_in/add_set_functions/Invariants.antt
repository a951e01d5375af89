use Rattle.std.proofs.Common.{List, ◌++◌, take}
use Rattle.cu_entities.specs.Entities as meant
use Rattle.cu_modules.specs.BuiltInEntities.{set_functions}
use Rattle.cu_modules.specs.Known.{AreEntities, listed_texts}
use Rattle.cu_names.specs.Texts.{text_of}
use Rattle.cu_modules.proofs.built_in.add_set_functions.Given as goal

abbrev pub invariant-texts : goal.invariant-texts
invariant-texts l = (before : List meant.Entity) → AreEntities l.fn.names before l.fn.entities.items
    → AreEntities l.fn.names (before ++ set_functions (text_of l.fn.names l.owner) 0 (listed_texts (take l.parameters l.texts))) l.entities.items
