-- The expressions between the brackets.
use Rattle.cu_lex.specs.Reading.{position_of}
use Rattle.cu_syntax.specs.SubtreeMeaning.{tree_of}
use Rattle.cu_syntax.proofs.ExpressionParts.{list_is}
use Rattle.cu_syntax.proofs.expression_forms.list.Goals as goal

pub returns-clause-meaning : goal.returns-clause-meaning
returns-clause-meaning c = λ names.
    list_is names c.args.tree.symbol (tree_of names c.args.tree) (tree_of names c.part.result) (position_of c.place.result) c.in_ok-elements.elements.items c.requires (c.args.tree.fits names) (c.place.ensures.position names)
    (c.part.ensures.tree names) (c.in_ok-elements.ensures.trees names) c.in_ok-elements.ensures.symbols

pub returns-clause-owned : goal.returns-clause-owned
returns-clause-owned c = λ owner names whole. (c.place.ensures.owned owner names whole, c.in_ok-elements.ensures.owned owner names (c.part.ensures.owned owner names whole))
