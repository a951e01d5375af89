use Rattle.std.proofs.Common.{rules, ◌≡◌, ℕ, length, slice_get, Some, List, arith}
use Rattle.cu_cycles.proofs.Changes.{enters, enters_falls, enters_meets, enters_met}
use Rattle.std.proofs.Common.{get_or}
use Rattle.std.specs.declared.alloc.Global.{Global}
use Rattle.std.specs.declared.vec.Vec.{Vec}
use Rattle.cu_cycles.proofs.Places.{within}
use Rattle.cu_cycles.proofs.Rows.{row_read}
use Rattle.cu_cycles.specs.Graph.{rows_in}
use Rattle.cu_cycles.specs.declared.components.Place.{Place}
use Rattle.cu_cycles.specs.declared.components.Place.TheVariants.{New}
use Rattle.cu_cycles.proofs.components.Search.enter.Goals as goal

row_there : (g : List (Vec ℕ Global)) (places : List Place) (f : ℕ) (row : Vec ℕ Global) → slice_get places f ≡ Some New → length places ≡ length (rows_in g)
    → row ≡ get_or g f row → slice_get (rows_in g) f ≡ Some row.items
row_there g places f row is_new sized is = let low = within places f New is_new in row_read g f row (omega arith) is

pub returns-clause-good : goal.returns-clause-good
returns-clause-good c =
    let s = c.args.self.now in
    (enters (rows_in c.args.graph.now) s.places.items s.path.items s.pending.items s.parts.items s.closed c.args.node c.index-graph-node.result.items
    c.len.result c.len-2.result c.len-3.result c.push-2.new.self.items c.extend_from_slice.new.self.items c.push.new.self.items c.deref.result.now
    c.requires.is_new (row_there c.args.graph.now s.places.items c.args.node c.index-graph-node.result c.requires.is_new c.requires.good.sized c.index-graph-node.is) (search rules) (search rules) (search rules) (search rules) (search rules) c.deref.ensures.value c.in_ok-extend_from_slice.ensures.items
    c.requires.good c.requires.reached)

pub returns-clause-falls : goal.returns-clause-falls
returns-clause-falls c =
    let s = c.args.self.now in
    (enters_falls (rows_in c.args.graph.now) s.places.items s.path.items s.pending.items s.parts.items s.closed c.args.node c.index-graph-node.result.items
    c.len.result c.len-2.result c.len-3.result c.push-2.new.self.items c.extend_from_slice.new.self.items c.push.new.self.items c.deref.result.now
    c.requires.is_new (row_there c.args.graph.now s.places.items c.args.node c.index-graph-node.result c.requires.is_new c.requires.good.sized c.index-graph-node.is) (search rules) (search rules) (search rules) (search rules) (search rules) c.deref.ensures.value c.in_ok-extend_from_slice.ensures.items)

pub returns-clause-meets : goal.returns-clause-meets
returns-clause-meets c =
    let s = c.args.self.now in
    (enters_meets (rows_in c.args.graph.now) s.places.items s.path.items s.pending.items s.parts.items s.closed c.args.node c.index-graph-node.result.items
    c.len.result c.len-2.result c.len-3.result c.push-2.new.self.items c.extend_from_slice.new.self.items c.push.new.self.items c.deref.result.now
    c.requires.is_new (row_there c.args.graph.now s.places.items c.args.node c.index-graph-node.result c.requires.is_new c.requires.good.sized c.index-graph-node.is) (search rules) (search rules) (search rules) (search rules) (search rules) c.deref.ensures.value c.in_ok-extend_from_slice.ensures.items)

pub returns-clause-met : goal.returns-clause-met
returns-clause-met c =
    let s = c.args.self.now in
    (enters_met (rows_in c.args.graph.now) s.places.items s.path.items s.pending.items s.parts.items s.closed c.args.node c.index-graph-node.result.items
    c.len.result c.len-2.result c.len-3.result c.push-2.new.self.items c.extend_from_slice.new.self.items c.push.new.self.items c.deref.result.now
    c.requires.is_new (row_there c.args.graph.now s.places.items c.args.node c.index-graph-node.result c.requires.is_new c.requires.good.sized c.index-graph-node.is) (search rules) (search rules) (search rules) (search rules) (search rules) c.deref.ensures.value c.in_ok-extend_from_slice.ensures.items)
