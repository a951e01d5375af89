use Rattle.std.proofs.Common.{◌≡◌, ◌++◌, drop, map}
use Rattle.cu_kernel.specs.KernelOf.{type_meaning}
use Rattle.cu_deftree.proofs.copies.copy_data_types.Given as goal

-- the copies and what is left are all
abbrev pub invariant-loop-data_type : goal.invariant-loop-data_type
invariant-loop-data_type l = map type_meaning l.copies.items ++ map type_meaning (drop l.data_type-index l.types) ≡ map type_meaning l.types
