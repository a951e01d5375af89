-- A minus, the first operand, and the operators with the operands after them.
use Rattle.cu_lex.specs.Reading.{position_of}
use Rattle.cu_syntax.specs.Expressions.{maybe_position}
use Rattle.cu_syntax.specs.SubtreeMeaning.{tree_of}
use Rattle.cu_syntax.proofs.ExpressionForms.{operators_are}
use Rattle.cu_syntax.proofs.OwnerLemmas.{same_part}
use Rattle.cu_syntax.proofs.expression_forms.operators.Goals as goal

pub returns-clause-meaning : goal.returns-clause-meaning
returns-clause-meaning c = λ names.
    operators_are names c.args.tree.symbol (tree_of names c.args.tree) (tree_of names c.part.result) (tree_of names c.part-3.result) c.part-2.result c.new.result (position_of c.place.result) (maybe_position c.minus.result) c.in_ok-further.field-0.items c.requires.symbol (c.args.tree.fits names) (c.requires.more names)
    (c.place.ensures.position names) (c.part.ensures.tree names) (c.minus.ensures.position names) c.new.ensures c.part-2.ensures.symbol (c.part-2.ensures.tree names) (c.part-3.ensures.tree names) (c.in_ok-further.ensures.meaning names)

pub returns-clause-owned : goal.returns-clause-owned
returns-clause-owned c = λ owner names whole. (c.place.ensures.owned owner names whole, c.minus.ensures.owned owner names (c.part.ensures.owned owner names whole), same_part owner names c.part-2.result c.new.result.tree c.new.ensures (c.part-2.ensures.owned owner names whole), c.in_ok-further.ensures.owned owner names (c.part-3.ensures.owned owner names whole))
