-- So many copies were made.
use Rattle.std.proofs.Common.{◌≡◌, replicate}
use Rattle.cu_graph.proofs.plain.PlainStoreStore.fork.Given as goal

abbrev pub invariant-loop : goal.invariant-loop
invariant-loop l = l.stores.items ≡ replicate l.counter l.fn.self
