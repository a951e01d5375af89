-- What the visits that are left find is what all of them do.
use Rattle.std.proofs.Common.{◌≡◌, ◌-◌}
use Rattle.cu_machine.specs.Graph.{head_of, head_within}
use Rattle.cu_step.proofs.head.read.Given as goal

abbrev pub invariant-loop : goal.invariant-loop
invariant-loop g l = head_within (l.end - l.counter) (g.S.Store.content l.store) l.head ≡ head_of (g.S.Store.content l.store) l.id
