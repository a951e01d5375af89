use Rattle.cu_lift.specs.Inside.Capturing.{AreUsers}
use Rattle.cu_lift.proofs.captures.users.Given as goal

abbrev pub invariant-loop-user : goal.invariant-loop-user
invariant-loop-user l = AreUsers l.locals l.user l.users.items
