-- The exports between the parentheses, or none.
use Rattle.std.proofs.Common.{map}
use Rattle.cu_syntax.specs.Items.{export_meaning}
use Rattle.cu_syntax.specs.Reading.{exports_of}
use Rattle.cu_syntax.specs.SubtreeMeaning.{tree_of}
use Rattle.cu_syntax.proofs.ItemLemmas.{exports_are, optional_none, optional_there}
use Rattle.cu_syntax.proofs.item_forms.exports.Goals as goal

pub returns-in_ok-export_list-in-Some-clause-meaning : goal.returns-in_ok-export_list-in-Some-clause-meaning
returns-in_ok-export_list-in-Some-clause-meaning c = λ names.
    let outer = c.in-Some.exports in
    let inner = tree_of names outer in
    let found = map (export_meaning names) c.in_ok-export_list-in-Some.field-0.items in
    optional_there exports_of (tree_of names c.args.tree) inner found (c.in-Some.ensures.tree names)
    (exports_are outer.symbol inner (tree_of names c.part-list.result) found c.in-Some.ensures.symbol (outer.fits names) (c.part-list.ensures.tree names)
    (c.in_ok-export_list-in-Some.ensures.meaning names))

pub returns-in-None-clause-meaning : goal.returns-in-None-clause-meaning
returns-in-None-clause-meaning c = λ names. optional_none exports_of (tree_of names c.args.tree) (c.in-None.ensures.none names)

pub returns-in_ok-export_list-in-Some-clause-owned : goal.returns-in_ok-export_list-in-Some-clause-owned
returns-in_ok-export_list-in-Some-clause-owned c = λ owner names whole. c.in_ok-export_list-in-Some.ensures.owned owner names (c.part-list.ensures.owned owner names (c.in-Some.ensures.owned owner names whole))

pub returns-in-None-clause-owned : goal.returns-in-None-clause-owned
returns-in-None-clause-owned c = λ owner names whole. tt
