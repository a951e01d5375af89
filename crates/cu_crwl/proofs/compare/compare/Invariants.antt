-- The pairs that are still to be compared decide.
use Rattle.std.proofs.Common.{◌-◌, drop, length}
use Rattle.cu_calculus.specs.Compared.{compared}
use Rattle.cu_crwl.proofs.CompareLaws.{ending, Compares}
use Rattle.cu_crwl.proofs.compare.compare.Given as goal

abbrev pub invariant-loop-pairs : goal.invariant-loop-pairs
invariant-loop-pairs l = Compares (drop l.i l.cells) (drop l.i l.others) l.pairs.left (ending l.pairs.whole) (compared l.left l.right)

abbrev pub decreases-loop-pairs : goal.decreases-loop-pairs
decreases-loop-pairs l = length l.cells - l.i
