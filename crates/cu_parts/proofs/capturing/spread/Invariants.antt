use Rattle.std.proofs.Common.{◌≤◌, length, map}
use Rattle.cu_kernel.specs.LocalKernelOf.{local_function_meaning}
use Rattle.cu_parts.specs.Inside.Capturing.{Round}
use Rattle.cu_parts.proofs.capturing.spread.Given as goal

-- the local functions from this place on have been gone through
abbrev pub invariant-loop-place : goal.invariant-loop-place
invariant-loop-place l = record {
  place : l.place ≤ length l.locals;
  round : Round (map local_function_meaning l.locals) l.x l.place l.fn.met l.met l.more;
}

abbrev pub decreases-loop-place : goal.decreases-loop-place
decreases-loop-place l = l.place
