use Rattle.std.proofs.Common.{[], length, sym, ap, ◌∙◌, arith}
use Rattle.cu_frozen.specs.Layers.{laid}
use Rattle.cu_frozen.proofs.Stacks.{size_read, forked}
use Rattle.cu_frozen.proofs.store.FrozenStoreStore.fork.Goals as goal

pub over-requires-2 : goal.over-requires-2
over-requires-2 c =
    ap (λ layers. length (laid [] layers)) c.in_ok-shared.ensures.ok ∙ ap length c.in_ok-frozen.ensures
    ∙ size_read c.self.inside.segments.value c.deref-2.result.now c.args.self c.deref-2.ensures c.self.invariant c.self.view_is ∙ sym c.len-nodes.ensures

pub over-requires : goal.over-requires
over-requires c =
    ap (λ layers. length (laid [] layers)) (c.in_ok-other.ensures ∙ c.in_ok-shared.ensures.ok) ∙ ap length c.in_ok-frozen.ensures
    ∙ size_read c.self.inside.segments.value c.deref-2.result.now c.args.self c.deref-2.ensures c.self.invariant c.self.view_is ∙ sym c.len-nodes.ensures

pub returns : goal.returns
returns c =
    forked c.loop.stores.items c.push-2.new.self.items c.in_ok-over-2.field-0 c.args.self c.loop.counter c.args.count c.loop.invariant
    c.in_ok-push-3.ensures.items (c.in_ok-over-2.ensures ∙ ap (laid []) c.in_ok-shared.ensures.ok ∙ c.in_ok-frozen.ensures) (omega (arith, c.requires))
