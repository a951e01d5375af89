use Rattle.std.proofs.Common.{◌≡◌, drop}
use Rattle.cu_calculus.specs.Shape.{are_ground}
use Rattle.cu_calculus.specs.Value.{values_of}
use Rattle.cu_crwl.proofs.apply.all_ground.Given as goal

abbrev pub invariant-loop-value : goal.invariant-loop-value
invariant-loop-value l = are_ground (values_of (drop l.value-index l.values)) ≡ are_ground (values_of l.values)
