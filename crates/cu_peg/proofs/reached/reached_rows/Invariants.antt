use Rattle.std.proofs.Common.{◌+◌, length}
use Rattle.cu_peg.specs.Inside.Closure.{unmarked}
use Rattle.cu_peg.proofs.ReachLemmas.{Going}
use Rattle.cu_peg.proofs.reached.reached_rows.Given as goal

abbrev pub invariant-loop-row : goal.invariant-loop-row
invariant-loop-row l = Going l.rows l.start l.marks.items l.pending.items

abbrev pub decreases-loop-row : goal.decreases-loop-row
decreases-loop-row l = unmarked l.marks.items + unmarked l.marks.items + length l.pending.items
