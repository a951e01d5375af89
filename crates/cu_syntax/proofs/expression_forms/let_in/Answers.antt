-- The declarations, and the body after them.
use Rattle.cu_lex.specs.Reading.{position_of}
use Rattle.cu_syntax.specs.Declarations.{declarations_meaning}
use Rattle.cu_syntax.specs.SubtreeMeaning.{tree_of}
use Rattle.cu_syntax.proofs.ExpressionParts.{let_is}
use Rattle.cu_syntax.proofs.OwnerLemmas.{same_part}
use Rattle.cu_syntax.proofs.expression_forms.let_in.Goals as goal

pub returns-clause-meaning : goal.returns-clause-meaning
returns-clause-meaning c = λ names.
    let_is names c.args.tree.symbol (tree_of names c.args.tree) (tree_of names c.part.result) c.part-2.result (position_of c.place.result) (declarations_meaning names c.in_ok-declarations.declarations.items) c.new-body.result c.requires (c.args.tree.fits names) (c.place.ensures.position names)
    (c.part.ensures.tree names) (c.in_ok-declarations.ensures.meaning names) c.new-body.ensures c.part-2.ensures.symbol (c.part-2.ensures.tree names)

pub returns-clause-owned : goal.returns-clause-owned
returns-clause-owned c = λ owner names whole. (c.place.ensures.owned owner names whole, c.in_ok-declarations.ensures.owned owner names (c.part.ensures.owned owner names whole), same_part owner names c.part-2.result c.new-body.result.tree c.new-body.ensures (c.part-2.ensures.owned owner names whole))
