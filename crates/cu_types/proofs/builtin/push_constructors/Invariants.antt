use Rattle.std.proofs.Common.{◌≡◌, ◌++◌, map, take}
use Rattle.cu_kernel.specs.KernelOf.{constructor_meaning}
use Rattle.cu_types.proofs.builtin.push_constructors.Given as goal
use Rattle.cu_types.specs.Inside.Building.{made_type}
use Rattle.cu_types.specs.Table.{at}

abbrev pub invariant-loop-constructor : goal.invariant-loop-constructor
invariant-loop-constructor l =
    l.found.items ≡ l.initial.found.items
    ++ map (λ c. made_type (at l.synonyms) l.of_type.0 l.data_type.arity (constructor_meaning c)) (take l.constructor-index l.constructor-items)
