use Rattle.std.proofs.Common.{◌≡◌, length, refl, arith}
use Rattle.cu_types.proofs.SynonymLemmas.{same_all, same_more}
use Rattle.cu_types.proofs.synonyms.is_same_table.Goals as goal
use Rattle.cu_types.specs.Table.{shape_of}

pub loop-index-preserved : goal.loop-index-preserved
loop-index-preserved c =
    let long : length c.args.left.now ≡ length c.args.right.now = omega arith in
    same_more shape_of c.args.left.now c.args.right.now c.loop-index.index c.index-left-index.result c.index-right-index.result long
    c.loop-index-test.true c.index-left-index.is c.index-right-index.is (c.if-not-is_same_node.ensures refl) c.loop-index.invariant

pub returns : goal.returns
returns c = λ yes.
    let long : length c.args.left.now ≡ length c.args.right.now = omega arith in
    same_all shape_of c.args.left.now c.args.right.now c.loop-index.index long c.loop-index-test.false c.loop-index.invariant
