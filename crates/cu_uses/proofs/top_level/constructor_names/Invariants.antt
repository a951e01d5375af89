use Rattle.std.proofs.Common.{◌≡◌, ◌++◌, drop}
use Rattle.cu_uses.specs.Inside.Tops.{constructor_names}
use Rattle.cu_uses.proofs.top_level.constructor_names.Given as goal

abbrev pub invariant-loop-constructor : goal.invariant-loop-constructor
invariant-loop-constructor l = l.found.items ++ constructor_names (drop l.constructor-index l.constructors) ≡ constructor_names l.constructors
