-- The first atom is the function, and the others are its arguments.
use Rattle.std.proofs.Common.{[], arith}
use Rattle.std.proofs.lemmas.List.{nil_from_length}
use Rattle.cu_lex.specs.Reading.{position_of}
use Rattle.cu_syntax.specs.SubtreeMeaning.{tree_of}
use Rattle.cu_syntax.specs.Owners.{ExpressionIsOf}
use Rattle.cu_syntax.proofs.ExpressionParts.{application_is, no_atoms, some_length}
use Rattle.cu_syntax.proofs.OwnerLemmas.{all_removed}
use Rattle.cu_syntax.proofs.ViewLemmas.{removed_first}
use Rattle.cu_syntax.proofs.expression_forms.application.Goals as goal

pub remove-function-requires : goal.remove-function-requires
remove-function-requires c =
    let found = c.in_ok-arguments.arguments in
    some_length _ (λ none. no_atoms [] c.args.tree.symbol (tree_of [] c.args.tree) found.items c.requires.symbol (c.args.tree.fits []) (c.in_ok-arguments.ensures.trees [])
    (nil_from_length found.items (omega (arith, found.ok.0, none))))

pub returns-clause-meaning : goal.returns-clause-meaning
returns-clause-meaning c = λ names.
    let found = c.in_ok-arguments.arguments in
    let same = removed_first found.items c.remove-function.new.self.items c.remove-function.result
    (no_atoms [] c.args.tree.symbol (tree_of [] c.args.tree) found.items c.requires.symbol (c.args.tree.fits []) (c.in_ok-arguments.ensures.trees [])) c.remove-function.ensures.value
    c.remove-function.ensures.by_index.2 in
    application_is names c.args.tree.symbol (tree_of names c.args.tree) (position_of c.place.result) found.items c.remove-function.result c.remove-function.new.self.items c.requires.symbol
    (c.requires.more names) (c.place.ensures.position names) (c.in_ok-arguments.ensures.trees names) c.in_ok-arguments.ensures.symbols same

pub returns-clause-owned : goal.returns-clause-owned
returns-clause-owned c = λ owner names whole.
    let found = c.in_ok-arguments.arguments in
    let removed = all_removed (ExpressionIsOf owner names) found.items c.remove-function.new.self.items c.remove-function.result
    (no_atoms [] c.args.tree.symbol (tree_of [] c.args.tree) found.items c.requires.symbol (c.args.tree.fits []) (c.in_ok-arguments.ensures.trees [])) c.remove-function.ensures.value
    c.remove-function.ensures.by_index.2 (c.in_ok-arguments.ensures.owned owner names whole) in
    (c.place.ensures.owned owner names whole, removed.0, removed.1)
