use Rattle.std.proofs.Common.{◌∙◌, ap, arith, pred, reverse}
use Rattle.cu_flatread.proofs.ExpressionGoesLemmas.{fewer_after, opening_fails, put_goes, put_known}
use Rattle.cu_flatread.proofs.ExpressionTaskLemmas.{expression_law, follows, opening_shorter}
use Rattle.cu_flatread.proofs.LoopLemmas.{gives_fails}
use Rattle.cu_flatread.proofs.TypeTaskLemmas.{pred_is}
use Rattle.cu_flatread.specs.Inside.ExpressionTasks.{opened, opening_at}
use Rattle.cu_flatread.specs.Inside.Words.{◌>>=◌}
use Rattle.cu_flatread.specs.declared.expressions.Task.TheVariants as task
use Rattle.cu_flatread.proofs.expressions.Expressions.expression.Goals as goal

pub returns-in_err-found-clause-gives : goal.returns-in_err-found-clause-gives
returns-in_err-found-clause-gives c =
    let depth = c.args.depth in
    let bytes = c.args.cursor.now.rest.now in
    let old = c.args.self.now.tasks.items in
    let rest = c.begin_expression.new.cursor.rest.now in
    opening_fails c.from_residual.result c.in_err-found.field-0.0 c.begin_expression.new.names
    c.args.self.now.cells.items (task.Expression depth) old (pred depth) bytes rest
    (opening_at depth bytes) c.from_residual.ensures.1
    (gives_fails (opened c.begin_expression.new.names) c.in_err-found.field-0.0 rest
    (opening_at depth bytes) c.in_err-found.ensures.gives)
    (expression_law depth (reverse old) bytes)

pub returns-clause-gives : goal.returns-clause-gives
returns-clause-gives c =
    let depth = c.args.depth in
    let bytes = c.args.cursor.now.rest.now in
    let old = c.args.self.now.tasks.items in
    let inner = c.saturating_sub.result in
    put_goes c.put.result c.begin_expression.new.names c.args.self.now.cells.items
    c.put.new.self.cells.items c.in_ok-found.found (task.Expression depth) old
    c.put.new.self.tasks.items inner bytes c.begin_expression.new.cursor.rest.now (opening_at depth bytes)
    c.put.ensures.cells c.put.ensures.tasks c.put.ensures.err
    (expression_law depth (reverse old) bytes
    ∙ ap (λ i. opening_at depth bytes >>= follows i (reverse old))
    (pred_is depth inner (omega (arith, c.saturating_sub.ensures))))
    c.in_ok-found.ensures.gives

pub returns-clause-known : goal.returns-clause-known
returns-clause-known c =
    put_known c.put.result c.args.names.now c.begin_expression.new.names c.args.self.now.cells.items
    c.put.new.self.cells.items c.in_ok-found.found c.put.ensures.cells
    c.in_ok-found.ensures.names c.in_ok-found.ensures.known

pub returns-clause-fewer : goal.returns-clause-fewer
returns-clause-fewer c =
    let depth = c.args.depth in
    let bytes = c.args.cursor.now.rest.now in
    let rest = c.begin_expression.new.cursor.rest.now in
    fewer_after c.put.result (task.Expression depth) c.args.self.now.tasks.items
    c.put.new.self.tasks.items c.saturating_sub.result c.in_ok-found.found.following bytes rest
    c.put.ensures.tasks
    (opening_shorter depth bytes rest (opened c.begin_expression.new.names c.in_ok-found.found)
    c.in_ok-found.ensures.gives)
