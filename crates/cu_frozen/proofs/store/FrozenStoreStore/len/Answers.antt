use Rattle.std.proofs.Common.{sym, ◌∙◌}
use Rattle.cu_frozen.proofs.Stacks.{size_read}
use Rattle.cu_frozen.proofs.store.FrozenStoreStore.len.Goals as goal

pub returns : goal.returns
returns c = c.len.ensures ∙ sym (size_read c.self.inside.segments.value c.deref.result.now c.args.self.now c.deref.ensures c.self.invariant c.self.view_is)
