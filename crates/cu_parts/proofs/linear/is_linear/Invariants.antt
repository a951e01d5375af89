use Rattle.std.proofs.Common.{take}
use Rattle.cu_parts.specs.Inside.Scoping.{Distinct}
use Rattle.cu_parts.proofs.linear.is_linear.Given as goal

abbrev pub invariant-loop-x : goal.invariant-loop-x
invariant-loop-x l = Distinct (take l.x-index l.variables) l.seen.keys
