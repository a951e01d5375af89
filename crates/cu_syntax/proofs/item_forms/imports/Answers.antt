-- The entities between the parentheses, or none.
use Rattle.std.proofs.Common.{map, ◌∙◌}
use Rattle.cu_syntax.specs.Items.{entity_meaning, import_list_meaning}
use Rattle.cu_syntax.specs.Reading.{import_list}
use Rattle.cu_syntax.specs.SubtreeMeaning.{tree_of}
use Rattle.cu_syntax.proofs.ItemLemmas.{list_is, optional_none, optional_there, there_is}
use Rattle.cu_syntax.proofs.item_forms.imports.Goals as goal

pub returns-in_default-clause-meaning : goal.returns-in_default-clause-meaning
returns-in_default-clause-meaning c = λ names. optional_none import_list (tree_of names c.args.tree) (c.in_default.ensures.none names)

pub returns-clause-meaning : goal.returns-clause-meaning
returns-clause-meaning c = λ names.
    let outer = c.in-Some.imports in
    let inner = tree_of names outer in
    let word = tree_of names c.part.result in
    let entities = map (entity_meaning names) c.in_ok-entities.entities.items in
    optional_there import_list (tree_of names c.args.tree) inner (import_list_meaning names record { hides = c.is_some-hides.result; entities = c.in_ok-entities.entities })
    (c.in-Some.ensures.tree names)
    (list_is outer.symbol inner word (tree_of names c.part-2.result) c.is_some-hides.result entities c.in-Some.ensures.symbol (outer.fits names) (c.part.ensures.tree names)
    (c.is_some-hides.ensures ∙ there_is names word c.optional-2.result (c.optional-2.ensures.tree names) (c.optional-2.ensures.none names)) (c.part-2.ensures.tree names)
    (c.in_ok-entities.ensures.meaning names))

pub returns-in_default-clause-owned : goal.returns-in_default-clause-owned
returns-in_default-clause-owned c = λ owner names whole. tt

pub returns-clause-owned : goal.returns-clause-owned
returns-clause-owned c = λ owner names whole. c.in_ok-entities.ensures.owned owner names (c.part-2.ensures.owned owner names (c.in-Some.ensures.owned owner names whole))
