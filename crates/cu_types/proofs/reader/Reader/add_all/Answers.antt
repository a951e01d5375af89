use Rattle.std.proofs.Common.{ℕ, List, length, map, slice_get, sym, ap, subst, ◌∙◌}
use Rattle.cu_types.proofs.Adding.{added_node, all_added, node_may, stands_kept, start_read}
use Rattle.cu_types.specs.Inside.Reading.{shapes}
use Rattle.cu_types.specs.Inside.Replacing.{replaced_by}
use Rattle.cu_types.specs.Table.{MayStand, at, shape_of, trees}
use Rattle.cu_types.specs.Types.{apply}
use Rattle.cu_types.proofs.reader.Reader.add_all.Goals as goal

pub loop-node-init : goal.loop-node-init
loop-node-init c = record {
  reader = c.requires.reader;
  read = start_read (shapes c.args.self.now) (apply (replaced_by (shapes c.args.self.now) c.args.by)) (trees (map shape_of c.args.types.now))
      c.in_ok-places.places.items c.in_ok-places.ensures.items;
}

pub add_node-requires-clause-reader : goal.add_node-requires-clause-reader
add_node-requires-clause-reader c = c.loop-node.invariant.reader

pub add_node-requires-clause-stands : goal.add_node-requires-clause-stands
add_node-requires-clause-stands c =
    stands_kept (shapes c.args.self.now) (shapes c.loop-node.self) c.loop-node.invariant.read.more c.args.by c.loop-node.invariant.read.extends
    c.requires.stands

pub add_node-requires-clause-may : goal.add_node-requires-clause-may
add_node-requires-clause-may c =
    subst (λ (ps : List ℕ). MayStand (length ps) (shape_of c.node-item.result)) (sym c.as_slice.ensures.value)
    (node_may c.args.types.now (at (trees (shapes c.loop-node.self))) (apply (replaced_by (shapes c.args.self.now) c.args.by))
    c.loop-node.places.items c.loop-node.node-index c.node-item.result c.requires.table c.loop-node-test.true c.node-item.is
    c.loop-node.invariant.read.values)

pub add_node-requires-clause-within : goal.add_node-requires-clause-within
add_node-requires-clause-within c = λ k p e.
    c.loop-node.invariant.read.within k p (ap (λ (xs : List ℕ). slice_get xs k) (sym c.as_slice.ensures.value) ∙ e)

pub loop-node-preserved : goal.loop-node-preserved
loop-node-preserved c = record {
  reader = c.in_ok-place.ensures.reader;
  read = added_node (shapes c.args.self.now) (shapes c.loop-node.self) (shapes c.add_node.new.self) c.args.by c.args.types.now
      c.loop-node.node-index c.node-item.result c.loop-node.places.items c.push.new.self.items c.as_slice.result.now c.in_ok-place.place
      c.requires.table c.loop-node-test.true c.node-item.is c.requires.stands c.as_slice.ensures.value c.in_ok-push.ensures.items
      c.loop-node.invariant.read c.in_ok-place.ensures.read;
}

pub returns-clause-reader : goal.returns-clause-reader
returns-clause-reader c = c.loop-node.invariant.reader

pub returns-clause-read : goal.returns-clause-read
returns-clause-read c =
    all_added (shapes c.args.self.now) (shapes c.loop-node.self) (apply (replaced_by (shapes c.args.self.now) c.args.by)) c.args.types.now
    c.loop-node.node-index c.loop-node.places.items c.loop-node-test.false c.loop-node.invariant.read
