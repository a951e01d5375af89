-- None, all, or those that are named.
use Rattle.std.proofs.Common.{[], ap, map}
use Rattle.cu_syntax.specs.Names.{name_meaning}
use Rattle.cu_syntax.specs.SubtreeMeaning.{tree_of}
use Rattle.cu_syntax.specs.Subtrees.{optional_part}
use Rattle.cu_syntax.specs.Table.{rule_of}
use Rattle.cu_syntax.specs.Owners.{NameIsOf}
use Rattle.cu_syntax.proofs.ItemLemmas.{all_named, empty_named, names_taken, none_named, only_named}
use Rattle.cu_syntax.proofs.OwnerLemmas.{none_yet}
use Rattle.cu_syntax.proofs.item_forms.named_constructors.Goals as goal

pub returns-in_default-clause-meaning : goal.returns-in_default-clause-meaning
returns-in_default-clause-meaning c = λ names. none_named (tree_of names c.args.tree) (c.in_default.ensures.none names)

pub returns-in-DotDot-clause-meaning : goal.returns-in-DotDot-clause-meaning
returns-in-DotDot-clause-meaning c = λ names.
    let outer = c.in-Some.constructors in
    let part = c.part.result in
    let chosen = c.chosen-named.result in
    all_named (tree_of names c.args.tree) chosen.symbol (tree_of names chosen)
    (names_taken outer.symbol part.symbol (tree_of names c.args.tree) (tree_of names outer) (tree_of names part) chosen.symbol (tree_of names chosen) (c.in-Some.ensures.tree names)
    c.in-Some.ensures.symbol (outer.fits names) (c.part.ensures.tree names) c.part.ensures.symbol (part.fits names) (c.chosen-named.ensures.tree names)) c.in-DotDot.is

pub optional-requires-in_default-symbol : goal.optional-requires-in_default-symbol
optional-requires-in_default-symbol c =
    let outer = c.in-Some.constructors in
    let part = c.part.result in
    let chosen = c.chosen-named.result in
    let taken = names_taken outer.symbol part.symbol (tree_of [] c.args.tree) (tree_of [] outer) (tree_of [] part) chosen.symbol (tree_of [] chosen) (c.in-Some.ensures.tree [])
    c.in-Some.ensures.symbol (outer.fits []) (c.part.ensures.tree []) c.part.ensures.symbol (part.fits []) (c.chosen-named.ensures.tree []) in
    ap (λ s. optional_part (rule_of s)) (taken.other c.in_default-symbol.not-DotDot)

pub returns-in_ok-names-in-Some-optional-clause-meaning : goal.returns-in_ok-names-in-Some-optional-clause-meaning
returns-in_ok-names-in-Some-optional-clause-meaning c = λ names.
    let outer = c.in-Some.constructors in
    let part = c.part.result in
    let chosen = c.chosen-named.result in
    let taken = names_taken outer.symbol part.symbol (tree_of names c.args.tree) (tree_of names outer) (tree_of names part) chosen.symbol (tree_of names chosen) (c.in-Some.ensures.tree names)
    c.in-Some.ensures.symbol (outer.fits names) (c.part.ensures.tree names) c.part.ensures.symbol (part.fits names) (c.chosen-named.ensures.tree names) in
    only_named (tree_of names c.args.tree) chosen.symbol (tree_of names chosen) (tree_of names c.in-Some-optional.list) (map (name_meaning names) c.in_ok-names-in-Some-optional.field-0.items) taken
    (taken.other c.in_default-symbol.not-DotDot) (c.in-Some-optional.ensures.tree names) (c.in_ok-names-in-Some-optional.ensures.meaning names)

pub returns-in-None-clause-meaning : goal.returns-in-None-clause-meaning
returns-in-None-clause-meaning c = λ names.
    let outer = c.in-Some.constructors in
    let part = c.part.result in
    let chosen = c.chosen-named.result in
    let taken = names_taken outer.symbol part.symbol (tree_of names c.args.tree) (tree_of names outer) (tree_of names part) chosen.symbol (tree_of names chosen) (c.in-Some.ensures.tree names)
    c.in-Some.ensures.symbol (outer.fits names) (c.part.ensures.tree names) c.part.ensures.symbol (part.fits names) (c.chosen-named.ensures.tree names) in
    empty_named (tree_of names c.args.tree) chosen.symbol (tree_of names chosen) (map (name_meaning names) c.new.result.items) taken
    (taken.other c.in_default-symbol.not-DotDot) (c.in-None.ensures.none names) (ap (map (name_meaning names)) c.new.ensures.items)

pub returns-in_default-clause-owned : goal.returns-in_default-clause-owned
returns-in_default-clause-owned c = λ owner names whole. tt

pub returns-in-DotDot-clause-owned : goal.returns-in-DotDot-clause-owned
returns-in-DotDot-clause-owned c = λ owner names whole. tt

pub returns-in_ok-names-in-Some-optional-clause-owned : goal.returns-in_ok-names-in-Some-optional-clause-owned
returns-in_ok-names-in-Some-optional-clause-owned c = λ owner names whole. c.in_ok-names-in-Some-optional.ensures.owned owner names (c.in-Some-optional.ensures.owned owner names (c.chosen-named.ensures.owned owner names (c.part.ensures.owned owner names (c.in-Some.ensures.owned owner names whole))))

pub returns-in-None-clause-owned : goal.returns-in-None-clause-owned
returns-in-None-clause-owned c = λ owner names whole. none_yet (NameIsOf owner names) c.new.result.items c.new.ensures.items
