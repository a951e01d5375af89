use Rattle.std.proofs.Common.{map}
use Rattle.cu_kernel.specs.LocalKernelOf.{local_function_meaning}
use Rattle.cu_parts.specs.Inside.Scoping.{MayBelow}
use Rattle.cu_parts.proofs.scoped.are_capturing.Given as goal

-- of the local functions so far, those that are met may capture the variable
abbrev pub invariant-loop-place : goal.invariant-loop-place
invariant-loop-place l = MayBelow (map local_function_meaning l.locals) l.x l.bound l.met l.place
