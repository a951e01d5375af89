use Rattle.std.proofs.Common.{◌≡◌, ◌++◌, drop, map}
use Rattle.cu_kernel.specs.KernelOf.{mark_meaning}
use Rattle.cu_kernel.specs.LocalKernelOf.{local_function_meaning, top_function_meaning}
use Rattle.cu_lift.specs.Inside.LiftedPlaces.{captured_in}
use Rattle.cu_lift.specs.Lifting.{in_order, local_mark, mark_group}
use Rattle.cu_lift.proofs.lifted_marks.push_marks.Given as goal

-- the marks so far and those that are left are all
abbrev pub invariant-loop-number : goal.invariant-loop-number
invariant-loop-number l =
    map mark_meaning l.marks.items
    ++ map (local_mark (mark_meaning l.mark) (captured_in l.placement)) (drop l.number-index (in_order (map local_function_meaning l.function.locals.items)))
    ≡ map mark_meaning l.fn.marks.items ++ mark_group (captured_in l.placement) (mark_meaning l.mark) (top_function_meaning l.function)
