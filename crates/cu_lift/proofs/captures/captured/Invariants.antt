use Rattle.std.proofs.Common.{length}
use Rattle.cu_lift.specs.Inside.Capturing.{SetsTo}
use Rattle.cu_lift.proofs.captures.captured.Given as goal

abbrev pub invariant-loop-x : goal.invariant-loop-x
invariant-loop-x l = SetsTo l.locals.items l.variables.keys l.sets.items

abbrev pub decreases-loop-x : goal.decreases-loop-x
decreases-loop-x l = length l.variables.keys
