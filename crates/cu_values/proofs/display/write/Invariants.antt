-- What is written and what is left come to the display.
use Rattle.std.proofs.Common.{◌≡◌, ◌+◌, ◌*◌, ◌++◌, ◌-◌, drop, length, reverse}
use Rattle.std.specs.String.{string_bytes}
use Rattle.cu_values.specs.Cells.{read, read_all}
use Rattle.cu_values.specs.Display.{display}
use Rattle.cu_values.specs.Inside.LabelsOf.{labels_meaning}
use Rattle.cu_values.specs.Inside.Tasks.{written, Ready}
use Rattle.cu_values.proofs.display.write.Given as goal

abbrev pub invariant-loop-task : goal.invariant-loop-task
invariant-loop-task l = record {
  ready : Ready (labels_meaning l.layout.names.now) l.layout.cells.now l.at l.pen.tasks.items;
  whole : string_bytes l.pen.text ++ written (labels_meaning l.layout.names.now) (reverse l.pen.tasks.items) (read_all (drop l.at l.layout.cells.now))
      ≡ display (labels_meaning l.layout.names.now) (read l.layout.cells.now);
}

abbrev pub decreases-loop-task : goal.decreases-loop-task
decreases-loop-task l = 8 * (length l.layout.cells.now - l.at) + length l.pen.tasks.items
