-- The values that are left on both sides are as many, and decide.
use Rattle.std.proofs.Common.{drop}
use Rattle.cu_values.specs.Approximation.{is_below}
use Rattle.cu_values.proofs.BelowLemmas.{Compared}
use Rattle.cu_values.specs.Views.{viewed}
use Rattle.cu_values.proofs.views.ValueRef.leq.Given as goal

abbrev pub invariant-loop-cell : goal.invariant-loop-cell
invariant-loop-cell l = Compared (drop l.cell-index l.cells) (drop l.at l.others) (is_below (viewed l.self) (viewed l.other))
