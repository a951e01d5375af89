use Rattle.std.proofs.Common.{take}
use Rattle.cu_lift.specs.Inside.Levelling.{IsDemand}
use Rattle.cu_lift.proofs.set_levels.row_demand.Given as goal

abbrev pub invariant-loop-mention : goal.invariant-loop-mention
invariant-loop-mention l = IsDemand l.levels (take l.mention-index l.row) l.least l.level
