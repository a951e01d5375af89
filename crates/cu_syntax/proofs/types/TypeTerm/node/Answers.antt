-- What is inside means the same, and what it tells is smaller.
use Rattle.std.proofs.Common.{[]}
use Rattle.cu_syntax.specs.Types.{type_at, type_meaning, type_node}
use Rattle.cu_syntax.specs.Formed.{TypeNodeIsFormed}
use Rattle.cu_syntax.specs.Sizes.{size_of_type}
use Rattle.cu_syntax.specs.Smaller.{TypeNodeIsBelow, type_size}
use Rattle.cu_syntax.specs.SubtreeMeaning.{tree_of}
use Rattle.cu_syntax.proofs.FormedLemmas.{formed_type_node, is_formed_type, ok_formed, type_formed}
use Rattle.cu_syntax.proofs.SizeLemmas.{ok_below, type_below}
use Rattle.cu_syntax.proofs.ViewLemmas.{ok_as}
use Rattle.cu_syntax.proofs.types.TypeTerm.node.Goals as goal

pub returns-clause-meaning : goal.returns-clause-meaning
returns-clause-meaning c = λ names.
    let inner = c.inside.result in
    ok_as (type_node names) c.node.result (type_at inner.symbol (tree_of names inner)) (type_meaning names c.args.self) (c.node.ensures.meaning names) (c.inside.ensures.same names)

pub returns-clause-owned : goal.returns-clause-owned
returns-clause-owned c = λ owner names whole. c.node.ensures.owned owner names (c.inside.ensures.owned owner names whole)

pub returns-clause-smaller : goal.returns-clause-smaller
unfolding type_size
returns-clause-smaller c =
    let inner = c.inside.result in
    ok_below (type_node []) size_of_type TypeNodeIsBelow c.node.result (type_meaning [] c.args.self) type_below
    (ok_as (type_node []) c.node.result (type_at inner.symbol (tree_of [] inner)) (type_meaning [] c.args.self) (c.node.ensures.meaning []) (c.inside.ensures.same []))

pub returns-clause-formed : goal.returns-clause-formed
returns-clause-formed c =
    let inner = c.inside.result in
    ok_formed (type_node []) is_formed_type TypeNodeIsFormed c.node.result (type_at inner.symbol (tree_of [] inner)) formed_type_node
    (type_formed inner.symbol (tree_of [] inner) c.inside.ensures.node (inner.fits []) (c.inside.ensures.bare [])) (c.node.ensures.meaning [])
