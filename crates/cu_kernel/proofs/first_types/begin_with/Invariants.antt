use Rattle.std.proofs.Common.{◌≡◌, drop, map}
use Rattle.cu_kernel.proofs.first_types.begin_with.Given as goal
use Rattle.cu_kernel.specs.FirstTypes.{begin_with}
use Rattle.cu_kernel.specs.KernelOf.{type_meaning}
use Rattle.cu_kernel.specs.Inside.OutlineOf.{outline_meaning}

-- the types that are left begin as they should where all do
abbrev pub invariant-loop-place : goal.invariant-loop-place
invariant-loop-place l =
    begin_with (map outline_meaning (drop l.place l.outlines)) (map type_meaning (drop l.place l.types))
    ≡ begin_with (map outline_meaning l.outlines) (map type_meaning l.types)
