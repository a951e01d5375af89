use Rattle.std.proofs.Common.{◌≡◌, ◌<◌, ℕ, List, Some, length, map, slice_get, slice_index, sym, subst}
use Rattle.cu_kernel.specs.TypeExpr.{TypeExpr}
use Rattle.cu_types.proofs.Adding.{node_may, nodes_taken}
use Rattle.cu_types.proofs.SynonymLemmas.{expanded_more, none_expanded}
use Rattle.cu_types.proofs.reader.Reader.expand_all.Goals as goal
use Rattle.cu_types.specs.Inside.Expanding.{shape_expanded}
use Rattle.cu_types.specs.Inside.Reading.{AllRead, Reads, shapes}
use Rattle.cu_types.specs.Synonyms.{expanded_by}
use Rattle.cu_types.specs.Table.{MayStand, at, shape_of, trees}

pub loop-node-init : goal.loop-node-init
loop-node-init c = record {
  reader = c.requires.reader;
  read = none_expanded (shapes c.args.self.now) c.args.types.now (at c.args.synonyms.now) c.in_ok-places.places.items
      c.in_ok-places.ensures.items;
}

pub expand_node-requires-clause-may : goal.expand_node-requires-clause-may
expand_node-requires-clause-may c =
    subst (λ (ps : List ℕ). MayStand (length ps) (shape_of c.node-item.result)) (sym c.as_slice.ensures.value)
    (node_may c.args.types.now (at (trees (shapes c.loop-node.self))) (expanded_by (at c.args.synonyms.now)) c.loop-node.places.items
    c.loop-node.node-index c.node-item.result c.requires.table c.loop-node-test.true c.node-item.is
    c.loop-node.invariant.read.values)

pub expand_node-requires-clause-within : goal.expand_node-requires-clause-within
expand_node-requires-clause-within c =
    subst (λ (ps : List ℕ). (k p : ℕ) → slice_get ps k ≡ Some p → p < length (shapes c.loop-node.self)) (sym c.as_slice.ensures.value)
    c.loop-node.invariant.read.within

pub loop-node-preserved : goal.loop-node-preserved
loop-node-preserved c = record {
  reader = c.in_ok-place.ensures.reader;
  read = expanded_more (shapes c.args.self.now) (shapes c.loop-node.self) (shapes c.expand_node.new.self) c.args.types.now
      (at c.args.synonyms.now) c.loop-node.node-index c.node-item.result c.loop-node.places.items c.push.new.self.items c.in_ok-place.place
      c.requires.table c.loop-node-test.true c.node-item.is c.in_ok-push.ensures.items c.loop-node.invariant.read
      (subst (λ (ps : List ℕ). Reads (shapes c.loop-node.self) (shapes c.expand_node.new.self)
      (shape_expanded (at c.args.synonyms.now) (λ a. at (trees (shapes c.loop-node.self)) (slice_index ps a)) (shape_of c.node-item.result))
      c.in_ok-place.place) c.as_slice.ensures.value c.in_ok-place.ensures.read);
}

pub returns-clause-read : goal.returns-clause-read
returns-clause-read c =
    subst (λ (ts : List TypeExpr). AllRead (shapes c.args.self.now) (shapes c.loop-node.self) (map (expanded_by (at c.args.synonyms.now)) ts)
    c.loop-node.places.items)
    (nodes_taken c.args.types.now c.loop-node.node-index c.loop-node-test.false) c.loop-node.invariant.read
