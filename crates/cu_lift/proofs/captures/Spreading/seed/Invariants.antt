use Rattle.std.proofs.Common.{[]}
use Rattle.cu_lift.specs.Inside.Capturing.{AreSeeded, Spreads}
use Rattle.cu_lift.proofs.captures.Spreading.seed.Given as goal

abbrev pub invariant-loop-function : goal.invariant-loop-function
invariant-loop-function l = Spreads l.locals l.x [] l.self × AreSeeded l.locals l.x l.function l.self
