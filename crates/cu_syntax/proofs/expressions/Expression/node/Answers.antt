-- What is inside means the same, and what it tells is smaller.
use Rattle.std.proofs.Common.{[]}
use Rattle.cu_syntax.specs.ExpressionMeaning.{expression_at, expression_meaning}
use Rattle.cu_syntax.specs.Expressions.{expression_node}
use Rattle.cu_syntax.specs.Formed.{ExpressionNodeIsFormed}
use Rattle.cu_syntax.specs.Sizes.{size_of_expression}
use Rattle.cu_syntax.specs.Smaller.{ExpressionNodeIsBelow, expression_size}
use Rattle.cu_syntax.specs.SubtreeMeaning.{tree_of}
use Rattle.cu_syntax.proofs.FormedLemmas.{formed_expression_node, is_formed_expression, ok_formed, expression_formed}
use Rattle.cu_syntax.proofs.SizeLemmas.{ok_below, expression_below}
use Rattle.cu_syntax.proofs.ViewLemmas.{ok_as}
use Rattle.cu_syntax.proofs.expressions.Expression.node.Goals as goal

pub returns-clause-meaning : goal.returns-clause-meaning
returns-clause-meaning c = λ names.
    let inner = c.inside.result in
    ok_as (expression_node names) c.node.result (expression_at inner.symbol (tree_of names inner)) (expression_meaning names c.args.self) (c.node.ensures.meaning names) (c.inside.ensures.same names)

pub returns-clause-owned : goal.returns-clause-owned
returns-clause-owned c = λ owner names whole. c.node.ensures.owned owner names (c.inside.ensures.owned owner names whole)

pub returns-clause-smaller : goal.returns-clause-smaller
unfolding expression_size
returns-clause-smaller c =
    let inner = c.inside.result in
    ok_below (expression_node []) size_of_expression ExpressionNodeIsBelow c.node.result (expression_meaning [] c.args.self) expression_below
    (ok_as (expression_node []) c.node.result (expression_at inner.symbol (tree_of [] inner)) (expression_meaning [] c.args.self) (c.node.ensures.meaning []) (c.inside.ensures.same []))

pub returns-clause-formed : goal.returns-clause-formed
returns-clause-formed c =
    let inner = c.inside.result in
    ok_formed (expression_node []) is_formed_expression ExpressionNodeIsFormed c.node.result (expression_at inner.symbol (tree_of [] inner)) formed_expression_node
    (expression_formed inner.symbol (tree_of [] inner) c.inside.ensures.node (inner.fits []) (c.inside.ensures.bare [])) (c.node.ensures.meaning [])
