use Rattle.std.proofs.Common.{◌≡◌, drop}
use Rattle.cu_kernel.proofs.declared.+types.Given as goal
use Rattle.cu_kernel.specs.KernelOf.{kernel_of}
use Rattle.cu_kernel.specs.Tests.{passes}
use Rattle.cu_kernel.specs.TypesOf.{types_of}
use Rattle.cu_kernel.specs.Valid.{fit_types}

-- the types that are left fit where all do
abbrev pub invariant-types_fit-loop-t : goal.invariant-types_fit-loop-t
invariant-types_fit-loop-t l =
    fit_types (kernel_of l.parts) (passes l.variables) (types_of (drop l.t-index l.types))
    ≡ fit_types (kernel_of l.parts) (passes l.variables) (types_of l.types)
