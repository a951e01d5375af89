use Rattle.std.proofs.Common.{◌≡◌, drop, map}
use Rattle.cu_kernel.proofs.declared.marks_fit.Given as goal
use Rattle.cu_kernel.specs.KernelOf.{function_meaning, kernel_of, mark_meaning}
use Rattle.cu_kernel.specs.Valid.{fit_marks}

-- the marks that are left fit where all do
abbrev pub invariant-loop-place : goal.invariant-loop-place
invariant-loop-place l =
    fit_marks (kernel_of l.parts) (map mark_meaning (drop l.place l.marks)) (map function_meaning (drop l.place l.functions))
    ≡ fit_marks (kernel_of l.parts) (map mark_meaning l.marks) (map function_meaning l.functions)
