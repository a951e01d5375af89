use Rattle.std.proofs.Common.{◌∷◌, [], ap, arith}
use Rattle.cu_flatread.proofs.ExpressionGoesLemmas.{all_done, goes_on_with, weights_append}
use Rattle.cu_flatread.proofs.KeptLemmas.{extends_again}
use Rattle.cu_flatread.specs.Inside.ExpressionTasks.{tasks_at, weights}
use Rattle.cu_flatread.proofs.expressions.cells.Goals as goal

pub loop-next-smaller : goal.loop-next-smaller
loop-next-smaller c =
    omega (
      arith,
      c.in_ok-step.ensures.fewer,
      ap weights c.in-Some.ensures.items,
      weights_append c.pop.new.self.items (c.in-Some.next ∷ []),
    )

pub loop-next-preserved : goal.loop-next-preserved
loop-next-preserved c =
    let inv = c.loop-next.invariant in (
      goes_on_with c.loop-next.names c.step.new.names c.loop-next.expressions.cells.items
          c.step.new.self.cells.items c.loop-next.expressions.tasks.items c.pop.new.self.items
          c.step.new.self.tasks.items c.in-Some.next c.loop-next.cursor.rest.now
          c.step.new.cursor.rest.now (tasks_at (c.args.task ∷ []) c.args.cursor.now.rest.now)
          c.in-Some.ensures.items c.in_ok-step.ensures.names inv.1 c.in_ok-step.ensures.gives inv.0,
      c.in_ok-step.ensures.known inv.1,
      extends_again c.args.names.now c.loop-next.names c.step.new.names inv.2
          c.in_ok-step.ensures.names,
      omega (arith, inv.3, c.in_ok-step.ensures.shorter),
    )

pub returns-clause-gives : goal.returns-clause-gives
returns-clause-gives c =
    all_done c.loop-next.names c.loop-next.expressions.cells.items
    c.loop-next.expressions.tasks.items c.loop-next.cursor.rest.now
    (tasks_at (c.args.task ∷ []) c.args.cursor.now.rest.now)
    (omega (arith, c.loop-next.expressions.tasks.ok.0, c.in_default.ensures.cases.0))
    c.loop-next.invariant.0
