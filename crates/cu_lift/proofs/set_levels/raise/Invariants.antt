use Rattle.std.proofs.Common.{take}
use Rattle.cu_lift.specs.Inside.Levelling.{AreRaised}
use Rattle.cu_lift.proofs.set_levels.raise.Given as goal

abbrev pub invariant-loop-function : goal.invariant-loop-function
invariant-loop-function l = AreRaised (take l.function-index l.members) l.level l.fn.levels.items l.levels.items
