use Rattle.std.proofs.Common.{◌<◌, ℕ}
use Rattle.cu_peg.specs.WellFormed.{IsEndless}
use Rattle.cu_peg.proofs.calls.first_endless_row.Given as goal

abbrev pub invariant-loop-number : goal.invariant-loop-number
invariant-loop-number l = (q : ℕ) → q < l.number → ¬ (IsEndless l.rows q)
