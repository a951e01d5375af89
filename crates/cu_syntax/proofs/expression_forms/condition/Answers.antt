-- The condition, and what it chooses between.
use Rattle.cu_lex.specs.Reading.{position_of}
use Rattle.cu_syntax.specs.SubtreeMeaning.{tree_of}
use Rattle.cu_syntax.proofs.ExpressionParts.{condition_is}
use Rattle.cu_syntax.proofs.OwnerLemmas.{same_part}
use Rattle.cu_syntax.proofs.expression_forms.condition.Goals as goal

pub returns-clause-meaning : goal.returns-clause-meaning
returns-clause-meaning c = λ names.
    condition_is names c.args.tree.symbol (tree_of names c.args.tree) c.part.result c.part-2.result c.part-3.result (position_of c.place.result) c.new-condition.result c.new-chosen.result c.new-other.result c.requires (c.args.tree.fits names) (c.place.ensures.position names)
    c.new-condition.ensures c.part.ensures.symbol (c.part.ensures.tree names)
    c.new-chosen.ensures c.part-2.ensures.symbol (c.part-2.ensures.tree names)
    c.new-other.ensures c.part-3.ensures.symbol (c.part-3.ensures.tree names)

pub returns-clause-owned : goal.returns-clause-owned
returns-clause-owned c = λ owner names whole. (c.place.ensures.owned owner names whole, same_part owner names c.part.result c.new-condition.result.tree c.new-condition.ensures (c.part.ensures.owned owner names whole), same_part owner names c.part-2.result c.new-chosen.result.tree c.new-chosen.ensures (c.part-2.ensures.owned owner names whole), same_part owner names c.part-3.result c.new-other.result.tree c.new-other.ensures (c.part-3.ensures.owned owner names whole))
