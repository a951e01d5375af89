use Rattle.std.proofs.Common.{◌≡◌, drop, map}
use Rattle.std.specs.List.{list_all}
use Rattle.cu_kernel.proofs.declared.data_types_fit.Given as goal
use Rattle.cu_kernel.specs.KernelOf.{kernel_of, type_meaning}
use Rattle.cu_kernel.specs.Valid.{fits_data_type}

-- the types that are left fit where all do
abbrev pub invariant-loop-data_type : goal.invariant-loop-data_type
invariant-loop-data_type l =
    list_all (fits_data_type (kernel_of l.parts)) (map type_meaning (drop l.data_type-index l.types))
    ≡ list_all (fits_data_type (kernel_of l.parts)) (map type_meaning l.types)
