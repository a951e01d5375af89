-- The pattern, and what stands after it.
use Rattle.std.proofs.Common.{ap}
use Rattle.cu_lex.specs.Reading.{position_of}
use Rattle.cu_syntax.specs.Subtrees.{has_token}
use Rattle.cu_syntax.specs.SubtreeMeaning.{tree_of}
use Rattle.cu_syntax.proofs.ExpressionParts.{alternative_is}
use Rattle.cu_syntax.proofs.OwnerLemmas.{same_part}
use Rattle.cu_syntax.proofs.expression_forms.alternative_of.Goals as goal

pub place-requires : goal.place-requires
place-requires c = ap has_token c.requires

pub returns-clause-meaning : goal.returns-clause-meaning
returns-clause-meaning c = λ names rest.
    alternative_is names c.args.tree.symbol (tree_of names c.args.tree) c.part.result c.part-2.result c.part-3.result (position_of c.place.result) c.new-pattern.result c.new-right.result rest c.requires (c.args.tree.fits names) (c.place.ensures.position names)
    c.new-pattern.ensures c.part.ensures.symbol (c.part.ensures.tree names) c.new-right.ensures.body c.part-2.ensures.symbol (c.part-2.ensures.tree names) c.new-right.ensures.local (c.part-3.ensures.tree names)

pub returns-clause-owned : goal.returns-clause-owned
returns-clause-owned c = λ owner names whole. (
  c.place.ensures.owned owner names whole,
  same_part owner names c.part.result c.new-pattern.result.tree c.new-pattern.ensures (c.part.ensures.owned owner names whole),
  (
    same_part owner names c.part-2.result c.new-right.result.body c.new-right.ensures.body (c.part-2.ensures.owned owner names whole),
    same_part owner names c.part-3.result c.new-right.result.local c.new-right.ensures.local (c.part-3.ensures.owned owner names whole),
  ),
)
