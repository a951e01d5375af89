use Rattle.std.proofs.Common.{◌≤◌, ◌+◌, ◌-◌}
use Rattle.cu_types.proofs.asking.Asking.arrows.Given as goal
use Rattle.cu_types.specs.Inside.Asking.{Adds}
use Rattle.cu_types.specs.Inside.Reading.{shapes}
use Rattle.cu_types.specs.BuiltInTypes.{arrows, variables_from}
use Rattle.cu_types.specs.Table.{at, trees}

abbrev pub decreases-loop-left : goal.decreases-loop-left
decreases-loop-left l = l.left

abbrev pub invariant-loop-left : goal.invariant-loop-left
invariant-loop-left l = record {
  few : l.left ≤ l.fn.variables.count;
  adds : Adds l.initial.self l.self (arrows (variables_from (l.fn.variables.first + l.left) (l.fn.variables.count - l.left))
      (at (trees (shapes l.initial.self.reader)) l.place)) l.whole;
}
