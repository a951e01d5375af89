use Rattle.std.proofs.Common.{◌≡◌, drop, map}
use Rattle.std.specs.List.{list_all}
use Rattle.cu_kernel.specs.KernelOf.{constructor_meaning}
use Rattle.cu_kernel.specs.LocalKernelOf.{local_kernel_of}
use Rattle.cu_kernel.specs.LocalValid.{constructor_names_types}
use Rattle.cu_parts.proofs.type_names.constructors_name_types.Given as goal

-- the constructors that are left pass where all do
abbrev pub invariant-loop-constructor : goal.invariant-loop-constructor
invariant-loop-constructor l = list_all (constructor_names_types (local_kernel_of l.parts)) (map constructor_meaning (drop l.constructor-index l.constructors)) ≡ list_all (constructor_names_types (local_kernel_of l.parts)) (map constructor_meaning l.constructors)
