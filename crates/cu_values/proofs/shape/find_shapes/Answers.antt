-- Each step goes one cell to the left.
use Rattle.std.proofs.Common.{◌≡◌, ◌-◌, ap, arith, drop, get_or, length, ◌∙◌}
use Rattle.cu_values.specs.declared.cell.Cell.TheVariants.{Bottom}
use Rattle.cu_values.specs.Cells.{arity_of, first, put, read_all}
use Rattle.cu_values.specs.Inside.LabelsOf.{labels_meaning}
use Rattle.cu_values.specs.Inside.Shapes.{shape_of}
use Rattle.cu_values.proofs.StackLemmas.{found_left, stack_room, stack_step}
use Rattle.cu_values.proofs.shape.find_shapes.Goals as goal

pub shape_of-shape-requires-in-loop-at : goal.shape_of-shape-requires-in-loop-at
shape_of-shape-requires-in-loop-at c =
    stack_room (labels_meaning c.args.names.now) c.args.cells.now c.loop-at.at c.as_slice.result.now c.requires c.loop-at-test.true
    c.loop-at.invariant.within (c.as_slice.ensures.value ∙ c.loop-at.invariant.after)

pub overflow_sub-others : goal.overflow_sub-others
overflow_sub-others c =
    let room = stack_room (labels_meaning c.args.names.now) c.args.cells.now c.loop-at.at c.as_slice.result.now c.requires c.loop-at-test.true
    c.loop-at.invariant.within (c.as_slice.ensures.value ∙ c.loop-at.invariant.after) in
    omega (arith, room, c.as_slice.ensures.len, c.len.ensures, c.arity.ensures)

pub loop-at-preserved : goal.loop-at-preserved
loop-at-preserved c =
    let labels = labels_meaning c.args.names.now in
    let inv = c.loop-at.invariant in
    let shaped : c.shape_of-shape.result ≡ shape_of labels (first (put (get_or c.args.cells.now (c.loop-at.at - 1) Bottom) (read_all (drop c.loop-at.at c.args.cells.now)))) =
    c.shape_of-shape.ensures (read_all (drop c.loop-at.at c.args.cells.now)) (c.as_slice.ensures.value ∙ inv.after) in
    let count : c.len.result - c.arity.result ≡ length c.loop-at.after.items - arity_of (get_or c.args.cells.now (c.loop-at.at - 1) Bottom) =
    omega (arith, c.as_slice.ensures.len, ap length c.as_slice.ensures.value, c.len.ensures, c.arity.ensures) in
    record {
      within = omega arith;
      after = stack_step labels c.args.cells.now c.loop-at.at c.loop-at.after.items (c.len.result - c.arity.result) c.truncate.new.self.items
          c.push.new.self.items c.shape_of-shape.result c.requires c.loop-at-test.true inv.within inv.after count c.truncate.ensures.items c.in_ok-push.ensures.items shaped;
      found = found_left labels c.args.cells.now c.loop-at.at c.loop-at.shapes.items c.push-in-loop-at.new.self.items c.shape_of-shape.result c.requires
          c.loop-at-test.true inv.within inv.found c.in_ok-push-2.ensures.items shaped;
    }
