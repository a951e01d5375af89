use Rattle.std.proofs.Common.{◌≡◌, drop, map}
use Rattle.std.specs.List.{list_all}
use Rattle.cu_kernel.specs.KernelOf.{type_meaning}
use Rattle.cu_kernel.specs.LocalValid.{is_data_type}
use Rattle.cu_parts.proofs.type_variables.are_data_types.Given as goal

-- the types that are left pass where all do
abbrev pub invariant-loop-data_type : goal.invariant-loop-data_type
invariant-loop-data_type l = list_all is_data_type (map type_meaning (drop l.data_type-index l.types)) ≡ list_all is_data_type (map type_meaning l.types)
