-- An operator, a minus, and the operand after it.
use Rattle.cu_syntax.specs.Names.{name_meaning}
use Rattle.cu_syntax.specs.Expressions.{maybe_position}
use Rattle.cu_syntax.specs.SubtreeMeaning.{tree_of}
use Rattle.cu_syntax.proofs.ExpressionForms.{item_is}
use Rattle.cu_syntax.proofs.OwnerLemmas.{same_part}
use Rattle.cu_syntax.proofs.expression_forms.operator_item.Goals as goal

pub returns-clause-meaning : goal.returns-clause-meaning
returns-clause-meaning c = λ names rest.
    item_is names c.args.tree.symbol (tree_of names c.args.tree) (tree_of names c.part.result) (tree_of names c.part-2.result) c.part-3.result (name_meaning names c.name.result) (maybe_position c.minus.result) c.new.result rest c.requires (c.args.tree.fits names)
    (c.part.ensures.tree names) (c.name.ensures.meaning names) (c.part-2.ensures.tree names) (c.minus.ensures.position names) c.new.ensures c.part-3.ensures.symbol (c.part-3.ensures.tree names)

pub returns-clause-owned : goal.returns-clause-owned
returns-clause-owned c = λ owner names whole. (c.name.ensures.owned owner names (c.part.ensures.owned owner names whole), c.minus.ensures.owned owner names (c.part-2.ensures.owned owner names whole), same_part owner names c.part-3.result c.new.result.tree c.new.ensures (c.part-3.ensures.owned owner names whole))
