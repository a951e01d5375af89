-- The parameters, and the body after the arrow.
use Rattle.cu_lex.specs.Reading.{position_of}
use Rattle.cu_syntax.specs.SubtreeMeaning.{tree_of}
use Rattle.cu_syntax.proofs.ExpressionParts.{lambda_is}
use Rattle.cu_syntax.proofs.OwnerLemmas.{same_part}
use Rattle.cu_syntax.proofs.expression_forms.lambda.Goals as goal

pub returns-clause-meaning : goal.returns-clause-meaning
returns-clause-meaning c = λ names.
    lambda_is names c.args.tree.symbol (tree_of names c.args.tree) (tree_of names c.part.result) c.part-2.result (position_of c.place.result) c.in_ok-parameters.parameters.items c.new-body.result c.requires (c.args.tree.fits names) (c.place.ensures.position names)
    (c.part.ensures.tree names) (c.in_ok-parameters.ensures.trees names) c.in_ok-parameters.ensures.symbols c.new-body.ensures c.part-2.ensures.symbol (c.part-2.ensures.tree names)

pub returns-clause-owned : goal.returns-clause-owned
returns-clause-owned c = λ owner names whole. (c.place.ensures.owned owner names whole, c.in_ok-parameters.ensures.owned owner names (c.part.ensures.owned owner names whole), same_part owner names c.part-2.result c.new-body.result.tree c.new-body.ensures (c.part-2.ensures.owned owner names whole))
