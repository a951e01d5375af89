-- The arguments are pushed one after another, and then the call.
use Rattle.std.proofs.Common.{ap₂, drop, ◌∙◌}
use Rattle.cu_machine.specs.State.{Branch, Idle}
use Rattle.std.proofs.lemmas.List.{drop_all}
use Rattle.cu_step.proofs.SetCalls.{drop_next, pushes_all, pushes_none, pushes_one}
use Rattle.cu_step.proofs.set_call.call_on.Goals as goal

pub loop-argument-init : goal.loop-argument-init
loop-argument-init g c =
    pushes_none (g.S.Store.content c.in_ok-store.store) c.in_ok-ids.ids.items c.args.arguments.now c.in_ok-store.ensures c.in_ok-ids.ensures.items

pub loop-argument-preserved : goal.loop-argument-preserved
loop-argument-preserved g c =
    let all = c.args.arguments.now in
    let i = c.loop-argument.argument-index in
    pushes_one (g.S.Store.content c.loop-argument.store) (g.S.Store.content c.push_value.new.store) c.loop-argument.ids.items c.push.new.self.items c.argument-item.result
    c.in_ok-push_value.field-0 (drop i all) _ all (drop_next all i c.argument-item.result c.loop-argument-test.true c.argument-item.is) c.in_ok-push_value.ensures.content
    c.in_ok-push_value.ensures.place c.in_ok-push.ensures.items c.loop-argument.invariant

pub returns : goal.returns
returns g c =
    let all = c.args.arguments.now in
    let i = c.loop-argument.argument-index in
    ap₂ (λ graph root. Branch graph root c.new-2.result.items Idle) c.new.ensures.store c.new.ensures.root
    ∙ pushes_all c.args.program.now c.args.f (g.S.Store.content c.loop-argument.store) (g.S.Store.content c.push-2.new.store) c.loop-argument.ids.items (drop i all) all
    c.kind_of_call-kind.result c.in_ok-root.root c.as_slice.result.now c.new-2.result.items (drop_all i all c.loop-argument-test.false) c.loop-argument.invariant
    c.kind_of_call-kind.ensures c.as_slice.ensures.value c.in_ok-root.ensures.content c.in_ok-root.ensures.place c.new-2.ensures.items
