use Rattle.std.proofs.Common.{◌≡◌, drop, map}
use Rattle.std.specs.List.{list_all}
use Rattle.cu_kernel.specs.KernelOf.{constructor_meaning}
use Rattle.cu_kernel.specs.LocalValid.{is_constructor}
use Rattle.cu_parts.proofs.type_variables.are_constructors.Given as goal

-- the constructors that are left pass where all do
abbrev pub invariant-loop-constructor : goal.invariant-loop-constructor
invariant-loop-constructor l = list_all (is_constructor l.count) (map constructor_meaning (drop l.constructor-index l.constructors)) ≡ list_all (is_constructor l.count) (map constructor_meaning l.constructors)
