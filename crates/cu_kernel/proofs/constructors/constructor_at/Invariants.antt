use Rattle.std.proofs.Common.{◌≡◌, drop, map, slice_get}
use Rattle.cu_kernel.proofs.constructors.constructor_at.Given as goal
use Rattle.cu_kernel.specs.Kernel.{constructor_at, placed_from}
use Rattle.cu_kernel.specs.KernelOf.{type_meaning}

-- the constructor is one of those that are left, by the number that is left
abbrev pub invariant-loop-place : goal.invariant-loop-place
invariant-loop-place l =
    slice_get (placed_from l.place (map type_meaning (drop l.place l.types))) l.left ≡ constructor_at (map type_meaning l.types) l.fn.id
