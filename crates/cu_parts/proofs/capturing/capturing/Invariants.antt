use Rattle.std.proofs.Common.{◌≡◌, length, map}
use Rattle.cu_kernel.specs.LocalKernelOf.{local_function_meaning}
use Rattle.cu_parts.specs.Inside.Capturing.{AreSound, unmet}
use Rattle.cu_parts.proofs.capturing.capturing.Given as goal

-- all that are met capture the variable
abbrev pub invariant-loop : goal.invariant-loop
invariant-loop l = record {
  sized : length l.met.items ≡ length l.locals;
  sound : AreSound (map local_function_meaning l.locals) l.x l.met.items;
}

abbrev pub decreases-loop : goal.decreases-loop
decreases-loop l = unmet l.met.items
