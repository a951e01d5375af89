-- The cells so far were taken.
use Rattle.std.proofs.Common.{◌≡◌, [], take}
use Rattle.cu_step.specs.Inside.Pushing.{all_fed, work_of}
use Rattle.cu_step.proofs.push.push_value.Given as goal

abbrev pub invariant-loop-cell : goal.invariant-loop-cell
invariant-loop-cell g l =
    work_of (g.S.Store.content l.store) l.work
    ≡ all_fed (record { graph = g.S.Store.content l.fn.store; ids = []; unfinished = [] }) (take l.cell-index l.cell-items)
