use Rattle.std.proofs.Common.{take}
use Rattle.cu_lift.specs.Inside.Capturing.{Adds}
use Rattle.cu_lift.proofs.captures.add_user.Given as goal

abbrev pub invariant-loop-call : goal.invariant-loop-call
invariant-loop-call l = Adds (take l.call-index l.calls) l.user l.fn.users.items l.users.items
