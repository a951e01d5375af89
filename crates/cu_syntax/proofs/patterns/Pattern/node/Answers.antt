-- What is inside means the same, and what it tells is smaller.
use Rattle.std.proofs.Common.{[]}
use Rattle.cu_syntax.specs.Patterns.{pattern_at, pattern_meaning, pattern_node}
use Rattle.cu_syntax.specs.Formed.{PatternNodeIsFormed}
use Rattle.cu_syntax.specs.Sizes.{size_of_pattern}
use Rattle.cu_syntax.specs.Smaller.{PatternNodeIsBelow, pattern_size}
use Rattle.cu_syntax.specs.SubtreeMeaning.{tree_of}
use Rattle.cu_syntax.proofs.FormedLemmas.{formed_pattern_node, is_formed_pattern, ok_formed, pattern_formed}
use Rattle.cu_syntax.proofs.SizeLemmas.{ok_below, pattern_below}
use Rattle.cu_syntax.proofs.ViewLemmas.{ok_as}
use Rattle.cu_syntax.proofs.patterns.Pattern.node.Goals as goal

pub returns-clause-meaning : goal.returns-clause-meaning
returns-clause-meaning c = λ names.
    let inner = c.inside.result in
    ok_as (pattern_node names) c.node.result (pattern_at inner.symbol (tree_of names inner)) (pattern_meaning names c.args.self) (c.node.ensures.meaning names) (c.inside.ensures.same names)

pub returns-clause-owned : goal.returns-clause-owned
returns-clause-owned c = λ owner names whole. c.node.ensures.owned owner names (c.inside.ensures.owned owner names whole)

pub returns-clause-smaller : goal.returns-clause-smaller
unfolding pattern_size
returns-clause-smaller c =
    let inner = c.inside.result in
    ok_below (pattern_node []) size_of_pattern PatternNodeIsBelow c.node.result (pattern_meaning [] c.args.self) pattern_below
    (ok_as (pattern_node []) c.node.result (pattern_at inner.symbol (tree_of [] inner)) (pattern_meaning [] c.args.self) (c.node.ensures.meaning []) (c.inside.ensures.same []))

pub returns-clause-formed : goal.returns-clause-formed
returns-clause-formed c =
    let inner = c.inside.result in
    ok_formed (pattern_node []) is_formed_pattern PatternNodeIsFormed c.node.result (pattern_at inner.symbol (tree_of [] inner)) formed_pattern_node
    (pattern_formed inner.symbol (tree_of [] inner) c.inside.ensures.node (inner.fits []) (c.inside.ensures.bare [])) (c.node.ensures.meaning [])
