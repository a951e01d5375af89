use Rattle.std.proofs.Common.{◌++◌, take}
use Rattle.std.specs.List.{flat_map}
use Rattle.cu_modules.specs.BuiltInEntities.{built_in_entities}
use Rattle.cu_modules.specs.Known.{AreEntities}
use Rattle.cu_modules.specs.OwnEntities.{declared_by}
use Rattle.cu_names.specs.Texts.{text_of}
use Rattle.cu_syntax.specs.Answer.{items_meaning}
use Rattle.cu_modules.proofs.own.own_entities.Given as goal

abbrev pub invariant-items : goal.invariant-items
invariant-items l =
    AreEntities l.names (built_in_entities (text_of l.names l.fn.module.name) ++ flat_map (declared_by (text_of l.names l.fn.module.name)) (items_meaning l.names (take l.item-index l.item-items))) l.entities.items
