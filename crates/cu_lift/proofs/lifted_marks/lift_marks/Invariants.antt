use Rattle.std.proofs.Common.{◌≡◌, ◌++◌, drop, map}
use Rattle.cu_kernel.specs.KernelOf.{mark_meaning}
use Rattle.cu_kernel.specs.LocalKernelOf.{top_function_meaning}
use Rattle.cu_lift.specs.Inside.LiftedPlaces.{marks_by}
use Rattle.cu_lift.proofs.lifted_marks.lift_marks.Given as goal

-- the marks so far and those that are left are all
abbrev pub invariant-loop-index : goal.invariant-loop-index
invariant-loop-index l =
    map mark_meaning l.lifted.items
    ++ marks_by (drop l.index l.placements) (map mark_meaning (drop l.index l.marks)) (map top_function_meaning (drop l.index l.functions))
    ≡ marks_by l.placements (map mark_meaning l.marks) (map top_function_meaning l.functions)
