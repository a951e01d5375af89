use Rattle.std.proofs.Common.{map}
use Rattle.cu_kernel.specs.LocalKernelOf.{top_function_meaning}
use Rattle.cu_parts.specs.Inside.Scoping.{ScopedBelow}
use Rattle.cu_parts.proofs.scoped.are_scoped.Given as goal

-- the functions so far are right by themselves
abbrev pub invariant-loop-function : goal.invariant-loop-function
invariant-loop-function l = ScopedBelow (map top_function_meaning l.functions) l.function-index
