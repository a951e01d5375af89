-- The operand, and the operator after it.
use Rattle.cu_lex.specs.Reading.{position_of}
use Rattle.cu_syntax.specs.Names.{name_meaning}
use Rattle.cu_syntax.specs.SubtreeMeaning.{tree_of}
use Rattle.cu_syntax.proofs.ExpressionParts.{left_section_is}
use Rattle.cu_syntax.proofs.OwnerLemmas.{same_part}
use Rattle.cu_syntax.proofs.expression_forms.left_section.Goals as goal

pub returns-clause-meaning : goal.returns-clause-meaning
returns-clause-meaning c = λ names.
    left_section_is names c.args.tree.symbol (tree_of names c.args.tree) (tree_of names c.part-2.result) c.part.result (position_of c.place.result) (name_meaning names c.name-operator.result) c.new-operand.result c.requires (c.args.tree.fits names) (c.place.ensures.position names)
    (c.part-2.ensures.tree names) (c.name-operator.ensures.meaning names) c.new-operand.ensures c.part.ensures.symbol (c.part.ensures.tree names)

pub returns-clause-owned : goal.returns-clause-owned
returns-clause-owned c = λ owner names whole. (c.place.ensures.owned owner names whole, same_part owner names c.part.result c.new-operand.result.tree c.new-operand.ensures (c.part.ensures.owned owner names whole), c.name-operator.ensures.owned owner names (c.part-2.ensures.owned owner names whole))
