use Rattle.std.proofs.Common.{◌≡◌, length}
use Rattle.cu_peg.proofs.grammar.certain_rows.Given as goal

abbrev pub invariant-loop-number : goal.invariant-loop-number
invariant-loop-number l = length l.certain.items ≡ l.number
