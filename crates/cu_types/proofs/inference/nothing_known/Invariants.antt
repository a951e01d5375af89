use Rattle.std.proofs.Common.{◌≡◌, replicate}
use Rattle.cu_types.proofs.inference.nothing_known.Given as goal
use Rattle.cu_types.specs.declared.known.Known.TheVariants as known

abbrev pub invariant-loop-index : goal.invariant-loop-index
invariant-loop-index l = l.known.items ≡ replicate l.index known.Nothing
