-- One more name is found.
use Rattle.std.proofs.Common.{◌<◌, None, Some, sym, ◌∙◌, arith, get_or, length}
use Rattle.cu_machine.specs.Next.{named}
use Rattle.cu_step.proofs.Namings.{goal_found, named_goal, named_other}
use Rattle.cu_step.proofs.waited.names.Goals as goal

pub loop-id-preserved-in-Some : goal.loop-id-preserved-in-Some
loop-id-preserved-in-Some g c =
    let graph = g.S.Store.content c.args.store.now in
    let goals = c.args.goals.now in
    let ids = c.args.ids.now in
    let test = c.loop-id-test.true in
    let within : c.loop-id.id-index < length c.args.ids.now = omega arith in
    named_goal graph goals c.loop-id.next ids c.loop-id.id-index c.in-Some.goal c.loop-id.names.items c.push.new.self.items (named graph goals 1 ids) within c.loop-id.invariant
    (goal_found graph goals c.as_slice.result.now (get_or ids c.loop-id.id-index 0) (Some c.in-Some.goal) (c.as_slice.ensures.value ∙ c.in_ok-heads.ensures)
    (sym c.in-Some.is ∙ c.in_ok-goal.ensures))
    c.in_ok-push.ensures.items

pub loop-id-preserved : goal.loop-id-preserved
loop-id-preserved g c =
    let graph = g.S.Store.content c.args.store.now in
    let goals = c.args.goals.now in
    let ids = c.args.ids.now in
    let test = c.loop-id-test.true in
    let within : c.loop-id.id-index < length c.args.ids.now = omega arith in
    named_other graph goals c.loop-id.next ids c.loop-id.id-index c.in_ok-next.next c.loop-id.names.items c.push-in-loop-id.new.self.items (named graph goals 1 ids) within c.loop-id.invariant
    (goal_found graph goals c.as_slice.result.now (get_or ids c.loop-id.id-index 0) None (c.as_slice.ensures.value ∙ c.in_ok-heads.ensures)
    (sym c.in_default.is ∙ c.in_ok-goal.ensures))
    c.in_ok-push-2.ensures.items c.in_ok-next.ensures
