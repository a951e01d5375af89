use Rattle.std.proofs.Common.{◌≡◌, ◌-◌, drop}
use Rattle.cu_calculus.specs.Proof.{are_rising}
use Rattle.cu_crwl.proofs.of_program.rise.Given as goal

abbrev pub invariant-loop-i : goal.invariant-loop-i
invariant-loop-i l = are_rising (drop (l.i - 1) l.bindings) ≡ are_rising l.bindings
