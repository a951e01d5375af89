-- The values to be passed are counted; those after them stay.
use Rattle.std.proofs.Common.{◌<◌, ◌≤◌, ◌+◌, ◌-◌, drop, length}
use Rattle.cu_values.specs.Cells.{suffix, read_all}
use Rattle.cu_values.proofs.CellLemmas.{Passed}
use Rattle.cu_values.proofs.walk.end_of.Given as goal

abbrev pub invariant-loop-pending : goal.invariant-loop-pending
invariant-loop-pending l = record {
  passed : Passed (drop l.i l.cells) (suffix 1 (read_all (drop l.start l.cells))) l.pending;
  within : l.i ≤ length l.cells;
  after : l.start < l.i + l.pending;
}

abbrev pub decreases-loop-pending : goal.decreases-loop-pending
decreases-loop-pending l = length l.cells - l.i
