-- A module, or an entity.
use Rattle.std.proofs.Common.{[]}
use Rattle.cu_lex.specs.Reading.{position_of}
use Rattle.cu_syntax.specs.Items.{entity_meaning}
use Rattle.cu_syntax.specs.Names.{module_name_meaning}
use Rattle.cu_syntax.specs.SubtreeMeaning.{tree_of}
use Rattle.cu_syntax.proofs.ItemLemmas.{entity_export, export_taken, module_export}
use Rattle.cu_syntax.proofs.item_forms.export.Goals as goal

pub returns-in-ModuleExport-clause-meaning : goal.returns-in-ModuleExport-clause-meaning
returns-in-ModuleExport-clause-meaning c = λ names.
    let tree = tree_of names c.args.tree in
    let chosen = c.chosen-chosen.result in
    let inner = tree_of names chosen in
    module_export tree chosen.symbol inner (tree_of names c.part.result) (position_of c.place.result) (module_name_meaning names c.module_name.result)
    (export_taken c.args.tree.symbol tree chosen.symbol inner c.requires (c.args.tree.fits names) (c.chosen-chosen.ensures.tree names)) c.in-ModuleExport.is (c.place.ensures.position names) (c.part.ensures.tree names)
    (c.module_name.ensures.meaning names)

pub entity-requires : goal.entity-requires
entity-requires c =
    (export_taken c.args.tree.symbol (tree_of [] c.args.tree) c.chosen-chosen.result.symbol (tree_of [] c.chosen-chosen.result) c.requires (c.args.tree.fits []) (c.chosen-chosen.ensures.tree [])).other
    c.in_default.not-ModuleExport

pub returns-in_ok-entity-in_default-clause-meaning : goal.returns-in_ok-entity-in_default-clause-meaning
returns-in_ok-entity-in_default-clause-meaning c = λ names.
    let tree = tree_of names c.args.tree in
    let chosen = c.chosen-chosen.result in
    let inner = tree_of names chosen in
    let taken = export_taken c.args.tree.symbol tree chosen.symbol inner c.requires (c.args.tree.fits names) (c.chosen-chosen.ensures.tree names) in
    entity_export tree chosen.symbol inner (entity_meaning names c.in_ok-entity-in_default.field-0) taken (taken.other c.in_default.not-ModuleExport) (c.in_ok-entity-in_default.ensures.meaning names)

pub returns-in-ModuleExport-clause-owned : goal.returns-in-ModuleExport-clause-owned
returns-in-ModuleExport-clause-owned c = λ owner names whole. (c.place.ensures.owned owner names (c.chosen-chosen.ensures.owned owner names whole), c.module_name.ensures.owned owner names (c.part.ensures.owned owner names (c.chosen-chosen.ensures.owned owner names whole)))

pub returns-in_ok-entity-in_default-clause-owned : goal.returns-in_ok-entity-in_default-clause-owned
returns-in_ok-entity-in_default-clause-owned c = λ owner names whole. c.in_ok-entity-in_default.ensures.owned owner names (c.chosen-chosen.ensures.owned owner names whole)
