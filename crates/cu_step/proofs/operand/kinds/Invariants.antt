-- The kinds so far are those of the arguments so far.
use Rattle.std.proofs.Common.{◌≡◌, map, take}
use Rattle.cu_machine.specs.Graph.{head_at}
use Rattle.cu_step.proofs.operand.kinds.Given as goal

abbrev pub invariant-loop-id : goal.invariant-loop-id
invariant-loop-id g l = l.kinds.items ≡ map (λ id. (head_at (g.S.Store.content l.store) id).kind) (take l.id-index l.ids)
