use Rattle.cu_modules.specs.Ordering.{modules_of}
use Rattle.cu_declared.proofs.CallLemmas.{RightBefore}
use Rattle.cu_declared.proofs.calls.declared_types.Given as goal

abbrev pub invariant-loop-number : goal.invariant-loop-number
invariant-loop-number l = RightBefore (modules_of l.names l.modules) l.number
