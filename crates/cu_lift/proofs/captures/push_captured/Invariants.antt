use Rattle.cu_lift.specs.Inside.Capturing.{Pushes}
use Rattle.cu_lift.proofs.captures.push_captured.Given as goal

abbrev pub invariant-loop-function : goal.invariant-loop-function
invariant-loop-function l = Pushes l.met l.x l.function l.fn.sets.items l.sets.items
