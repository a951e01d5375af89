use Rattle.std.proofs.Common.{[]}
use Rattle.cu_lift.specs.Inside.Capturing.{Spreads, Stays, left}
use Rattle.cu_lift.proofs.captures.Spreading.run.Given as goal

abbrev pub invariant-loop-callee : goal.invariant-loop-callee
invariant-loop-callee l = Spreads l.locals l.x [] l.self × Stays l.fn.self l.self

abbrev pub decreases-loop-callee : goal.decreases-loop-callee
decreases-loop-callee l = left l.self
