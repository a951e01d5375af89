-- The shapes of the values that are left on the right, and of the values at each cell there.
use Rattle.std.proofs.Common.{◌≡◌, ◌≤◌, drop, length, reverse}
use Rattle.cu_values.specs.Cells.{read_all}
use Rattle.cu_values.specs.Inside.LabelsOf.{labels_meaning}
use Rattle.cu_values.specs.Inside.Shapes.{shapes_at, stacked}
use Rattle.cu_values.proofs.shape.find_shapes.Given as goal

abbrev pub invariant-loop-at : goal.invariant-loop-at
invariant-loop-at l = record {
  within : l.at ≤ length l.cells;
  after : l.after.items ≡ stacked (labels_meaning l.names) (read_all (drop l.at l.cells));
  found : reverse l.shapes.items ≡ shapes_at (labels_meaning l.names) (drop l.at l.cells);
}

abbrev pub decreases-loop-at : goal.decreases-loop-at
decreases-loop-at l = l.at
