-- What was found is right, and what comes out of it stays the same. Each look takes a part of a
-- cost that is linear in the nodes and their arguments.
use Rattle.std.proofs.Common.{◌≡◌, ℕ}
use Rattle.cu_machine.specs.Need as need
use Rattle.cu_step.specs.Inside.Kept.{Stands}
use Rattle.cu_step.specs.Inside.Walk.{Fits, Marked, cost, found, outcome}
use Rattle.cu_step.proofs.need.Walk.finish.Given as goal

abbrev pub invariant-loop-frame : goal.invariant-loop-frame
invariant-loop-frame g l = record {
  fits : Fits l.truth (g.S.Store.content l.store) (found l.self) need.Done;
  marked : Marked (g.S.Store.content l.store) (found l.self);
  comes : outcome l.truth (g.S.Store.content l.store) (found l.self) need.Done ≡ outcome l.truth (g.S.Store.content l.store) (found l.fn.self) need.Done;
  stands : (root : ℕ) → Stands l.truth (g.S.Store.content l.store) root (found l.fn.self) → Stands l.truth (g.S.Store.content l.store) root (found l.self);
}

abbrev pub decreases-loop-frame : goal.decreases-loop-frame
decreases-loop-frame g l = cost (g.S.Store.content l.store) (found l.self)
