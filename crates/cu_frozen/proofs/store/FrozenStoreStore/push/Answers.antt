use Rattle.std.proofs.Common.{sym, ◌∙◌, arith}
use Rattle.cu_frozen.proofs.Stacks.{size_read}
use Rattle.cu_frozen.proofs.store.FrozenStoreStore.push.Goals as goal

pub push-requires : goal.push-requires
push-requires c =
    omega (arith, c.requires, size_read c.self.inside.segments.value c.deref_mut.result.now c.args.self.now c.deref_mut.ensures.value c.self.invariant c.self.view_is)

pub returns-clause-place : goal.returns-clause-place
returns-clause-place c =
    c.len-id.ensures ∙ sym (size_read c.self.inside.segments.value c.deref.result.now c.args.self.now c.deref.ensures c.self.invariant c.self.view_is)
