-- A variable, or a type with its constructors.
use Rattle.std.proofs.Common.{[], ap, refl}
use Rattle.cu_lex.specs.Reading.{position_of}
use Rattle.cu_syntax.specs.declared.symbol.Symbol.TheVariants as symbol
use Rattle.cu_syntax.specs.Items.{constructors_meaning}
use Rattle.cu_syntax.specs.Names.{name_meaning}
use Rattle.cu_syntax.specs.SubtreeMeaning.{tree_of}
use Rattle.cu_syntax.specs.Subtrees.{has_token}
use Rattle.cu_syntax.proofs.DeclarationLemmas.{has_part}
use Rattle.cu_syntax.proofs.ItemLemmas.{entity_taken, type_entity, variable_entity}
use Rattle.cu_syntax.proofs.item_forms.entity.Goals as goal

pub returns-in-QVar-clause-meaning : goal.returns-in-QVar-clause-meaning
returns-in-QVar-clause-meaning c = λ names.
    let tree = tree_of names c.args.tree in
    let chosen = c.chosen-chosen.result in
    let inner = tree_of names chosen in
    variable_entity tree chosen.symbol inner (position_of c.place.result) (name_meaning names c.name.result)
    (entity_taken c.args.tree.symbol tree chosen.symbol inner c.requires (c.args.tree.fits names) (c.chosen-chosen.ensures.tree names)) c.in-QVar.is (c.place.ensures.position names) (c.name.ensures.meaning names)

pub part-requires : goal.part-requires
part-requires c =
    let taken = entity_taken c.args.tree.symbol (tree_of [] c.args.tree) c.chosen-chosen.result.symbol (tree_of [] c.chosen-chosen.result) c.requires (c.args.tree.fits []) (c.chosen-chosen.ensures.tree []) in
    has_part c.chosen-chosen.result.symbol symbol.TypeEntity 0 symbol.QCon (taken.other c.in_default.not-QVar) refl

pub part-constructors-requires : goal.part-constructors-requires
part-constructors-requires c =
    let taken = entity_taken c.args.tree.symbol (tree_of [] c.args.tree) c.chosen-chosen.result.symbol (tree_of [] c.chosen-chosen.result) c.requires (c.args.tree.fits []) (c.chosen-chosen.ensures.tree []) in
    has_part c.chosen-chosen.result.symbol symbol.TypeEntity 1 symbol.OptionalConstructors (taken.other c.in_default.not-QVar) refl

pub returns-in_ok-constructors-in_default-clause-meaning : goal.returns-in_ok-constructors-in_default-clause-meaning
returns-in_ok-constructors-in_default-clause-meaning c = λ names.
    let tree = tree_of names c.args.tree in
    let chosen = c.chosen-chosen.result in
    let inner = tree_of names chosen in
    let taken = entity_taken c.args.tree.symbol tree chosen.symbol inner c.requires (c.args.tree.fits names) (c.chosen-chosen.ensures.tree names) in
    type_entity tree chosen.symbol inner (tree_of names c.part.result) (tree_of names c.part-constructors.result) (position_of c.place-in_default.result) (name_meaning names c.name-name.result)
    (constructors_meaning names c.in_ok-constructors-in_default.constructors) taken (taken.other c.in_default.not-QVar) (c.place-in_default.ensures.position names) (c.part.ensures.tree names) (c.name-name.ensures.meaning names)
    (c.part-constructors.ensures.tree names) (c.in_ok-constructors-in_default.ensures.meaning names)

pub place-requires-in_default : goal.place-requires-in_default
place-requires-in_default c =
    let taken = entity_taken c.args.tree.symbol (tree_of [] c.args.tree) c.chosen-chosen.result.symbol (tree_of [] c.chosen-chosen.result) c.requires (c.args.tree.fits []) (c.chosen-chosen.ensures.tree []) in
    ap has_token (taken.other c.in_default.not-QVar)

pub returns-in-QVar-clause-owned : goal.returns-in-QVar-clause-owned
returns-in-QVar-clause-owned c = λ owner names whole. (c.place.ensures.owned owner names (c.chosen-chosen.ensures.owned owner names whole), c.name.ensures.owned owner names (c.chosen-chosen.ensures.owned owner names whole))

pub returns-in_ok-constructors-in_default-clause-owned : goal.returns-in_ok-constructors-in_default-clause-owned
returns-in_ok-constructors-in_default-clause-owned c = λ owner names whole. (c.place-in_default.ensures.owned owner names (c.chosen-chosen.ensures.owned owner names whole), c.name-name.ensures.owned owner names (c.part.ensures.owned owner names (c.chosen-chosen.ensures.owned owner names whole)), c.in_ok-constructors-in_default.ensures.owned owner names (c.part-constructors.ensures.owned owner names (c.chosen-chosen.ensures.owned owner names whole)))
