use Rattle.std.proofs.Common.{◌≡◌, ◌++◌, drop, map}
use Rattle.cu_kernel.specs.KernelOf.{function_meaning}
use Rattle.cu_kernel.specs.LocalKernelOf.{top_function_meaning}
use Rattle.cu_lift.specs.Inside.LiftedPlaces.{functions_by}
use Rattle.cu_lift.proofs.lifted_functions.lift_functions.Given as goal

-- the functions so far and those that are left are all
abbrev pub invariant-loop-index : goal.invariant-loop-index
invariant-loop-index l =
    map function_meaning l.lifted.items ++ functions_by l.tops (drop l.index l.placements) (map top_function_meaning (drop l.index l.functions))
    ≡ functions_by l.tops l.placements (map top_function_meaning l.functions)
