use Rattle.std.proofs.Common.{◌≡◌, ℕ, ◌<◌, true, Some}
use Rattle.std.specs.Prelude.{slice_get}
use Rattle.cu_peg.specs.Inside.Closure.{holds, marked}
use Rattle.cu_peg.specs.declared.closure.Condition.{Condition}
use Rattle.cu_peg.proofs.closure.next.Given as goal

abbrev pub invariant-loop-number : goal.invariant-loop-number
invariant-loop-number l = (k : ℕ) (c : Condition) → k < l.number → slice_get l.conditions k ≡ Some c → holds l.marks c ≡ true → marked l.marks k ≡ true
