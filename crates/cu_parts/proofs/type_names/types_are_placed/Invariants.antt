use Rattle.std.proofs.Common.{◌≡◌, drop, map}
use Rattle.std.specs.List.{list_all}
use Rattle.cu_kernel.specs.KernelOf.{type_meaning}
use Rattle.cu_kernel.specs.LocalKernelOf.{local_kernel_of}
use Rattle.cu_kernel.specs.LocalValid.{type_is_placed}
use Rattle.cu_parts.proofs.type_names.types_are_placed.Given as goal

-- the types that are left pass where all do
abbrev pub invariant-loop-data_type : goal.invariant-loop-data_type
invariant-loop-data_type l = list_all (type_is_placed (local_kernel_of l.parts)) (map type_meaning (drop l.data_type-index l.types)) ≡ list_all (type_is_placed (local_kernel_of l.parts)) (map type_meaning l.types)
