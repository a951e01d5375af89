-- What comes of the node is what comes of the first one.
use Rattle.std.proofs.Common.{◌≡◌, length}
use Rattle.cu_step.specs.Inside.Pushing.{given, work_of}
use Rattle.cu_step.proofs.push.Pushing.give.Given as goal

abbrev pub invariant-loop-outer : goal.invariant-loop-outer
invariant-loop-outer g l =
    given (work_of (g.S.Store.content l.store) l.self) l.id ≡ given (work_of (g.S.Store.content l.fn.store) l.fn.self) l.fn.id

abbrev pub decreases-loop-outer : goal.decreases-loop-outer
decreases-loop-outer g l = length l.self.unfinished.items
