-- The element, and the qualifiers after the bar.
use Rattle.cu_lex.specs.Reading.{position_of}
use Rattle.cu_syntax.specs.SubtreeMeaning.{tree_of}
use Rattle.cu_syntax.proofs.ExpressionParts.{comprehension_is}
use Rattle.cu_syntax.proofs.OwnerLemmas.{same_part}
use Rattle.cu_syntax.proofs.expression_forms.comprehension.Goals as goal

pub returns-clause-meaning : goal.returns-clause-meaning
returns-clause-meaning c = λ names.
    comprehension_is names c.args.tree.symbol (tree_of names c.args.tree) (tree_of names c.part-2.result) c.part.result (position_of c.place.result) c.new-element.result c.in_ok-qualifiers.qualifiers.items c.requires (c.args.tree.fits names) (c.place.ensures.position names)
    c.new-element.ensures c.part.ensures.symbol (c.part.ensures.tree names) (c.part-2.ensures.tree names) (c.in_ok-qualifiers.ensures.meaning names)

pub returns-clause-owned : goal.returns-clause-owned
returns-clause-owned c = λ owner names whole. (c.place.ensures.owned owner names whole, same_part owner names c.part.result c.new-element.result.tree c.new-element.ensures (c.part.ensures.owned owner names whole), c.in_ok-qualifiers.ensures.owned owner names (c.part-2.ensures.owned owner names whole))
