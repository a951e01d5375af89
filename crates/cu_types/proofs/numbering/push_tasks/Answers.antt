use Rattle.std.proofs.Common.{◌≡◌, ◌≤◌, ◌<◌, ◌-◌, ◌+◌, ◌∷◌, length, reverse, get_or, refl, ◌∙◌, arith}
use Rattle.cu_types.proofs.NumberingLemmas.{tasks_end, tasks_more, tasks_start}
use Rattle.cu_types.proofs.numbering.push_tasks.Goals as goal
use Rattle.cu_types.specs.declared.order.Task.TheVariants as task

pub loop-left-init : goal.loop-left-init
loop-left-init c =
    record {
      few = omega arith;
      pushed = tasks_start c.args.arguments.now (length c.args.arguments.now) c.args.tasks.now.items c.push.new.self.items (task.Leave c.args.place)
          (omega arith) c.in_ok-push.ensures.items;
    }

pub loop-left-preserved : goal.loop-left-preserved
loop-left-preserved c =
    let some : 0 < c.loop-left.left = c.loop-left-test.true in
    let few : c.loop-left.left ≤ length c.args.arguments.now = c.loop-left.invariant.few in
    let next : c.loop-left.left ≡ (c.loop-left.left - 1) + 1 = omega arith in
    record {
      few = omega arith;
      pushed = tasks_more c.args.arguments.now c.loop-left.left (c.loop-left.left - 1) (get_or c.args.arguments.now (c.loop-left.left - 1) 0)
          c.loop-left.tasks.items c.push-in-loop-left.new.self.items (task.Leave c.args.place ∷ reverse c.args.tasks.now.items)
          next few refl c.in_ok-push-2.ensures.items c.loop-left.invariant.pushed;
    }

pub returns : goal.returns
returns c =
    let none : c.loop-left.left ≤ 0 = c.loop-left-test.false in
    let zero : c.loop-left.left ≡ 0 = omega arith in
    c.loop-left.invariant.pushed
    ∙ tasks_end c.args.arguments.now c.loop-left.left (task.Leave c.args.place ∷ reverse c.args.tasks.now.items) zero
