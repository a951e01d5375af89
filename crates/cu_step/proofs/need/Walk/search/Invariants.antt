-- What was found is right, and what comes out of it is what the root needs. The frames stand as
-- those of a walk that may be kept.
use Rattle.std.proofs.Common.{◌≡◌}
use Rattle.cu_machine.specs.Need as need
use Rattle.cu_machine.specs.Need.{need_all}
use Rattle.cu_step.specs.Inside.Kept.{Stands}
use Rattle.cu_step.specs.Inside.Walk.{Fits, found, outcome}
use Rattle.cu_step.proofs.need.Walk.search.Given as goal

abbrev pub invariant-unmarked : goal.invariant-unmarked
invariant-unmarked g l = record {
  fits : Fits l.truth (g.S.Store.content l.store) (found l.self) need.Done;
  comes : outcome l.truth (g.S.Store.content l.store) (found l.self) need.Done ≡ need_all l.truth (g.S.Store.content l.store) l.root;
  stands : Stands l.truth (g.S.Store.content l.store) l.root (found l.self);
}
