use Rattle.std.proofs.Common.{◌<◌, ◌∙◌, length, map, arith, subst, sym, List, ℕ}
use Rattle.std.proofs.lemmas.List.{get_or_read}
use Rattle.cu_types.proofs.BreadthLemmas.{arguments_below, breadth_found, breadth_more, breadths_may, breadths_sized}
use Rattle.cu_types.specs.Table.{MayStand, shape_of}
use Rattle.cu_types.proofs.shared.SharedType.breadth.Goals as goal

pub node_breadth-count-requires : goal.node_breadth-count-requires
node_breadth-count-requires c =
    arguments_below (length c.as_slice.result.now) (shape_of c.node-item.result)
    (subst (λ (xs : List ℕ). MayStand (length xs) (shape_of c.node-item.result)) (sym c.as_slice.ensures.value)
    (breadths_may c.open-opened.result.types.now c.loop-node.node-index c.node-item.result c.loop-node.breadths.items
    c.open-opened.ensures.table c.loop-node-test.true c.node-item.is c.loop-node.invariant))

pub loop-node-preserved : goal.loop-node-preserved
loop-node-preserved c =
    breadth_more c.open-opened.result.types.now c.loop-node.node-index c.node-item.result c.as_slice.result.now c.loop-node.breadths.items
    c.push.new.self.items c.node_breadth-count.result c.open-opened.ensures.table c.loop-node-test.true c.node-item.is
    c.as_slice.ensures.value c.loop-node.invariant c.node_breadth-count.ensures c.in_ok-push.ensures.items

pub index-requires : goal.index-requires
index-requires c =
    let sized = breadths_sized c.open-opened.result.types.now c.loop-node.node-index c.loop-node.breadths.items c.loop-node-test.false
    c.loop-node.invariant in
    let within : c.open-opened.result.place < length (map shape_of c.open-opened.result.types.now) = c.open-opened.ensures.within in
    omega (arith, sized, within, c.loop-node.breadths.ok.0)

pub returns : goal.returns
returns c =
    let sized = breadths_sized c.open-opened.result.types.now c.loop-node.node-index c.loop-node.breadths.items c.loop-node-test.false
    c.loop-node.invariant in
    let within : c.open-opened.result.place < length (map shape_of c.open-opened.result.types.now) = c.open-opened.ensures.within in
    let inside : c.open-opened.result.place < length c.loop-node.breadths.items = omega (arith, sized, within) in
    get_or_read c.loop-node.breadths.items c.open-opened.result.place c.index.result.now inside c.index.ensures 0
    ∙ breadth_found c.open-opened.result.types.now c.loop-node.node-index c.loop-node.breadths.items c.open-opened.result.place
    c.args.self.now c.loop-node-test.false c.loop-node.invariant within c.open-opened.ensures.value
