use Rattle.std.proofs.Common.{◌≡◌, drop}
use Rattle.cu_calculus.specs.Valid.{is_linear}
use Rattle.cu_kernel.proofs.patterns.is_linear.Given as goal

-- what is left is linear where all is
abbrev pub invariant-loop-place : goal.invariant-loop-place
invariant-loop-place l = is_linear (drop l.place l.variables) ≡ is_linear l.variables
