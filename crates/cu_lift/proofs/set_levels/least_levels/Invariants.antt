use Rattle.cu_lift.specs.Inside.Levelling.{LevelsTo}
use Rattle.cu_lift.proofs.set_levels.least_levels.Given as goal

abbrev pub invariant-loop-group : goal.invariant-loop-group
invariant-loop-group l = LevelsTo l.graph l.found.ranks.items l.group-index l.levels.items
