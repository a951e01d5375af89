use Rattle.std.proofs.Common.{◌≡◌, ◌++◌, ℕ, List, map, take}
use Rattle.cu_kernel.specs.KernelOf.{type_meaning}
use Rattle.cu_toplevel.specs.Readings.{IsReading}
use Rattle.cu_translation.specs.ModuleTypes.{Reading, tuple_type}
use Rattle.cu_toplevel.proofs.first_types.add_tuples.Given as goal

abbrev pub invariant-sizes : goal.invariant-sizes
invariant-sizes l = (names : List (List ℕ)) (r : Reading) → IsReading names r l.reading
    → map type_meaning l.types.items ≡ map type_meaning l.fn.types.items ++ map (tuple_type r) (take l.components-index l.sizes)
