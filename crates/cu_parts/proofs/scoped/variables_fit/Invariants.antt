use Rattle.std.proofs.Common.{length}
use Rattle.cu_kernel.specs.LocalKernelOf.{top_function_meaning}
use Rattle.cu_parts.specs.Inside.Scoping.{FitsOrLeft}
use Rattle.cu_parts.proofs.scoped.variables_fit.Given as goal

-- each variable fits, or is left
abbrev pub invariant-loop-x : goal.invariant-loop-x
invariant-loop-x l = FitsOrLeft (top_function_meaning l.function) l.left.keys

abbrev pub decreases-loop-x : goal.decreases-loop-x
decreases-loop-x l = length l.left.keys
