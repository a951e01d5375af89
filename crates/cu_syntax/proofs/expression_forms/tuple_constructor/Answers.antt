-- One component more than commas.
use Rattle.cu_lex.specs.Reading.{position_of}
use Rattle.cu_syntax.specs.SubtreeMeaning.{tree_of}
use Rattle.cu_syntax.proofs.ExpressionParts.{tuple_constructor_is}
use Rattle.cu_syntax.proofs.expression_forms.tuple_constructor.Goals as goal

pub returns-clause-meaning : goal.returns-clause-meaning
returns-clause-meaning c = λ names.
    tuple_constructor_is c.args.tree.symbol (tree_of names c.args.tree) (tree_of names c.part.result) (position_of c.place.result) c.count-commas.result c.requires (c.args.tree.fits names) (c.place.ensures.position names) (c.part.ensures.tree names) (c.count-commas.ensures.count names)

pub returns-clause-owned : goal.returns-clause-owned
returns-clause-owned c = λ owner names whole. c.place.ensures.owned owner names whole
