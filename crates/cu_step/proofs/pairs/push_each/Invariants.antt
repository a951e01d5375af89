-- The nodes so far and those of the pairs that are left are the nodes of all pairs.
use Rattle.std.proofs.Common.{◌≡◌, ◌++◌, drop}
use Rattle.cu_machine.specs.Rewrite.{pair_nodes}
use Rattle.cu_step.proofs.pairs.push_each.Given as goal

abbrev pub invariant-loop-a : goal.invariant-loop-a
invariant-loop-a g l =
    g.S.Store.content l.store ++ pair_nodes l.each (drop l.a-index l.pairs) ≡ g.S.Store.content l.fn.store ++ pair_nodes l.each l.pairs
