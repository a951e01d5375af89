use Rattle.std.proofs.Common.{◌≡◌, ◌++◌, drop, map}
use Rattle.cu_kernel.specs.KernelOf.{function_meaning}
use Rattle.cu_kernel.specs.LocalKernelOf.{local_function_meaning, top_function_meaning}
use Rattle.cu_lift.specs.Inside.LiftedPlaces.{lifting_meaning, name_in}
use Rattle.cu_lift.specs.Lifting.{in_order, lifted_group, lifted_local}
use Rattle.cu_lift.proofs.lifted_functions.push_group.Given as goal

-- the functions so far and those that are left are all
abbrev pub invariant-loop-number : goal.invariant-loop-number
invariant-loop-number l =
    map function_meaning l.lifted.items
    ++ map (lifted_local (lifting_meaning l.renaming) (name_in l.renaming.placement.now)) (drop l.number-index (in_order (map local_function_meaning l.function.locals.items)))
    ≡ map function_meaning l.fn.lifted.items
    ++ lifted_group (lifting_meaning l.renaming) (name_in l.renaming.placement.now) (top_function_meaning l.function)
