use Rattle.std.proofs.Common.{◌≡◌, drop}
use Rattle.cu_kernel.specs.LocalKernelOf.{local_kernel_of}
use Rattle.cu_kernel.specs.LocalValid.{all_name_types}
use Rattle.cu_kernel.specs.TypesOf.{types_of}
use Rattle.cu_parts.proofs.type_names.+names.Given as goal

-- the types that are left pass where all do
abbrev pub invariant-all_name_types-loop-t : goal.invariant-all_name_types-loop-t
invariant-all_name_types-loop-t l =
    all_name_types (local_kernel_of l.parts) (types_of (drop l.t-index l.types)) ≡ all_name_types (local_kernel_of l.parts) (types_of l.types)
