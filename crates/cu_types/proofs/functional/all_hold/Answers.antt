use Rattle.std.proofs.Common.{length, subst, sym, List, Bool}
use Rattle.cu_types.proofs.BreadthLemmas.{arguments_below}
use Rattle.cu_types.proofs.FunctionalLemmas.{holds_all, holds_may, holds_more}
use Rattle.cu_types.specs.Table.{MayStand, shape_of}
use Rattle.cu_types.proofs.functional.all_hold.Goals as goal

pub node_holds-own-requires : goal.node_holds-own-requires
node_holds-own-requires c =
    arguments_below (length c.as_slice.result.now) (shape_of c.node-item.result)
    (subst (λ (xs : List Bool). MayStand (length xs) (shape_of c.node-item.result)) (sym c.as_slice.ensures.value)
    (holds_may c.args.types.now c.loop-node.node-index c.node-item.result c.loop-node.holds.items c.requires c.loop-node-test.true
    c.node-item.is c.loop-node.invariant))

pub loop-node-preserved : goal.loop-node-preserved
loop-node-preserved c =
    holds_more c.args.types.now c.loop-node.node-index c.node-item.result c.as_slice.result.now c.loop-node.holds.items c.push.new.self.items
    c.node_holds-own.result c.requires c.loop-node-test.true c.node-item.is c.as_slice.ensures.value c.loop-node.invariant
    c.node_holds-own.ensures c.in_ok-push.ensures.items

pub returns : goal.returns
returns c =
    holds_all c.args.types.now c.loop-node.node-index c.loop-node.holds.items c.loop-node-test.false c.loop-node.invariant
