-- What was pushed, and what the arguments that are left push, are the whole.
use Rattle.std.proofs.Common.{drop}
use Rattle.cu_step.proofs.SetCalls.{Pushes}
use Rattle.cu_step.proofs.set_call.call_on.Given as goal

abbrev pub invariant-loop-argument : goal.invariant-loop-argument
invariant-loop-argument g l = Pushes (g.S.Store.content l.store) l.ids.items (drop l.argument-index l.arguments) l.arguments
