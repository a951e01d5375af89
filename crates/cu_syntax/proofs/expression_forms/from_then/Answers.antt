-- The first number, the second and the last.
use Rattle.cu_lex.specs.Reading.{position_of}
use Rattle.cu_syntax.specs.Expressions.{maybe_meaning}
use Rattle.cu_syntax.specs.SubtreeMeaning.{tree_of}
use Rattle.cu_syntax.proofs.ExpressionParts.{from_then_is}
use Rattle.cu_syntax.proofs.OwnerLemmas.{same_part}
use Rattle.cu_syntax.proofs.expression_forms.from_then.Goals as goal

pub returns-clause-meaning : goal.returns-clause-meaning
returns-clause-meaning c = λ names.
    from_then_is names c.args.tree.symbol (tree_of names c.args.tree) (tree_of names c.part-3.result) c.part.result c.part-2.result (position_of c.place.result) c.new-first.result c.new.result (maybe_meaning names c.maybe-last.result) c.requires (c.args.tree.fits names) (c.place.ensures.position names)
    c.new-first.ensures c.part.ensures.symbol (c.part.ensures.tree names) c.new.ensures c.part-2.ensures.symbol (c.part-2.ensures.tree names) (c.part-3.ensures.tree names) (c.maybe-last.ensures.meaning names)

pub returns-clause-owned : goal.returns-clause-owned
returns-clause-owned c = λ owner names whole. (c.place.ensures.owned owner names whole, (same_part owner names c.part.result c.new-first.result.tree c.new-first.ensures (c.part.ensures.owned owner names whole), same_part owner names c.part-2.result c.new.result.tree c.new.ensures (c.part-2.ensures.owned owner names whole), c.maybe-last.ensures.owned owner names (c.part-3.ensures.owned owner names whole)))
