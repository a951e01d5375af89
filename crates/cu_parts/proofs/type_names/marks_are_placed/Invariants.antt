use Rattle.std.proofs.Common.{◌≡◌, drop, map}
use Rattle.std.specs.List.{list_all}
use Rattle.cu_kernel.specs.KernelOf.{mark_meaning}
use Rattle.cu_kernel.specs.LocalKernelOf.{local_kernel_of}
use Rattle.cu_kernel.specs.LocalValid.{mark_is_placed}
use Rattle.cu_parts.proofs.type_names.marks_are_placed.Given as goal

-- the marks that are left pass where all do
abbrev pub invariant-loop-mark : goal.invariant-loop-mark
invariant-loop-mark l = list_all (mark_is_placed (local_kernel_of l.parts)) (map mark_meaning (drop l.mark-index l.marks)) ≡ list_all (mark_is_placed (local_kernel_of l.parts)) (map mark_meaning l.marks)
