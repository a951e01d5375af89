use Rattle.std.proofs.Common.{take}
use Rattle.cu_parts.specs.Inside.Scoping.{Collects}
use Rattle.cu_parts.proofs.scoped.collected.Given as goal

abbrev pub invariant-loop-x : goal.invariant-loop-x
invariant-loop-x l = Collects (take l.x-index l.variables) l.set.keys
