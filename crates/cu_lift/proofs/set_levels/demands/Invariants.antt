use Rattle.std.proofs.Common.{take}
use Rattle.cu_lift.specs.Inside.Levelling.{AreDemands}
use Rattle.cu_lift.proofs.set_levels.demands.Given as goal

abbrev pub invariant-loop-function : goal.invariant-loop-function
invariant-loop-function l = AreDemands l.graph l.levels (take l.function-index l.members) l.level
