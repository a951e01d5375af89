-- The heads so far are those of the nodes so far.
use Rattle.std.proofs.Common.{◌≡◌, map, take}
use Rattle.cu_machine.specs.Graph.{head_of}
use Rattle.cu_step.proofs.waited.heads.Given as goal

abbrev pub invariant-loop-id : goal.invariant-loop-id
invariant-loop-id g l = l.heads.items ≡ map (head_of (g.S.Store.content l.store)) (take l.id-index l.ids)
