-- The pairs that are still to be compared decide.
use Rattle.std.proofs.Common.{◌-◌, drop, length}
use Rattle.cu_calculus.specs.Order.{value_order}
use Rattle.cu_values.proofs.OrderLemmas.{Ordered}
use Rattle.cu_values.specs.Views.{viewed}
use Rattle.cu_values.proofs.views.ValueRef.cmp.Given as goal

abbrev pub invariant-loop-pairs : goal.invariant-loop-pairs
invariant-loop-pairs l = Ordered (drop l.i l.cells) (drop l.i l.others) l.pairs.left l.pairs.last (value_order (viewed l.self) (viewed l.other))

abbrev pub decreases-loop-pairs : goal.decreases-loop-pairs
decreases-loop-pairs l = length l.cells - l.i
