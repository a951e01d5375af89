-- So many graphs were made.
use Rattle.std.proofs.Common.{◌≡◌, replicate}
use Rattle.cu_frozen.proofs.store.FrozenStoreStore.fork.Given as goal

abbrev pub invariant-loop : goal.invariant-loop
invariant-loop l = l.stores.items ≡ replicate l.counter l.fn.self
