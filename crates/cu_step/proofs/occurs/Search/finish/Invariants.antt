-- What is still to be looked at tells the answer. Each look takes a node, or marks one.
use Rattle.std.proofs.Common.{◌≡◌, ◌+◌, length}
use Rattle.cu_step.specs.Inside.Occurring.{Looks, unseen_arguments}
use Rattle.cu_step.proofs.occurs.Search.finish.Given as goal

abbrev pub invariant-loop-id : goal.invariant-loop-id
invariant-loop-id g l = record {
  looks : Looks (g.S.Store.content l.store) l.sought l.fn.self.pending.items l.self.seen.items l.self.pending.items;
  marked : length l.self.seen.items ≡ length (g.S.Store.content l.store);
}

abbrev pub decreases-loop-id : goal.decreases-loop-id
decreases-loop-id g l = unseen_arguments (g.S.Store.content l.store) l.self.seen.items + length l.self.pending.items
