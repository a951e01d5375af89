use Rattle.std.proofs.Common.{arith}
use Rattle.cu_frozen.proofs.Stacks.{size_read}
use Rattle.cu_frozen.proofs.store.FrozenStore.spot.Goals as goal

pub spot-requires : goal.spot-requires
spot-requires c =
    omega (arith, c.requires, size_read c.self.inside.segments.value c.deref.result.now c.args.self.now c.deref.ensures c.self.invariant c.self.view_is)
