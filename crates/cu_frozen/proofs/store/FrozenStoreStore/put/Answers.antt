use Rattle.std.proofs.Common.{arith}
use Rattle.cu_frozen.proofs.Stacks.{size_read}
use Rattle.cu_frozen.proofs.store.FrozenStoreStore.put.Goals as goal

pub put-requires : goal.put-requires
put-requires c =
    omega (arith, c.requires, size_read c.self.inside.segments.value c.deref_mut.result.now c.args.self.now c.deref_mut.ensures.value c.self.invariant c.self.view_is)
