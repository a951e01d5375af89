use Rattle.std.proofs.Common.{◌∷◌, reverse, subst, sym}
use Rattle.cu_flatread.proofs.ExpressionGoesLemmas.{mark_goes}
use Rattle.cu_flatread.specs.Inside.ExpressionTasks.{Goes}
use Rattle.cu_flatread.proofs.expressions.Expressions.step.Goals as goal

pub returns-in-Mark-clause-gives : goal.returns-in-Mark-clause-gives
returns-in-Mark-clause-gives c =
    subst (λ t. Goes c.word.result c.args.names.now c.args.self.now.cells.items
    (t ∷ reverse c.args.self.now.tasks.items) c.args.cursor.now.rest.now
    c.args.self.now.cells.items c.args.self.now.tasks.items c.word.new.self.rest.now)
    (sym c.in-Mark.is)
    (mark_goes c.word.result c.args.names.now c.args.self.now.cells.items c.in-Mark.mark
    c.args.self.now.tasks.items c.args.cursor.now.rest.now c.word.new.self.rest.now
    c.text.result.now c.text.ensures c.word.ensures.gives)

pub returns-in-First-clause-known : goal.returns-in-First-clause-known
returns-in-First-clause-known c = c.first.ensures.known c.args.names.now

pub returns-in-Next-clause-known : goal.returns-in-Next-clause-known
returns-in-Next-clause-known c = c.next.ensures.known c.args.names.now
