-- So many free variables were pushed, and these are their indices.
use Rattle.std.proofs.Common.{◌≡◌, ◌++◌, length}
use Rattle.cu_machine.specs.State.{free_nodes, numbers}
use Rattle.cu_step.proofs.free.push.Given as goal

abbrev pub invariant-loop : goal.invariant-loop
invariant-loop g l =
    let graph = g.S.Store.content l.fn.store in
    (l.places.items ≡ numbers (length graph) l.counter) × (g.S.Store.content l.store ≡ graph ++ free_nodes l.counter)
