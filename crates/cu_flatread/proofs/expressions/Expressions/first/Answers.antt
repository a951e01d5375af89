use Rattle.std.proofs.Common.{reverse}
use Rattle.cu_flatread.proofs.ExpressionGoesLemmas.{element_fails, element_gave, element_known, fewer_first, opening_fails, put_goes}
use Rattle.cu_flatread.proofs.ExpressionTaskLemmas.{elements_by, first_law}
use Rattle.cu_flatread.proofs.LoopLemmas.{gives_fails}
use Rattle.cu_flatread.specs.Inside.Words.{begins}
use Rattle.cu_flatread.specs.declared.expressions.Task.TheVariants as task
use Rattle.cu_flatread.proofs.expressions.Expressions.first.Goals as goal

pub returns-in_err-more-clause-gives : goal.returns-in_err-more-clause-gives
returns-in_err-more-clause-gives c =
    λ names.
    let list = c.args.of in
    let depth = c.args.depth in
    let bytes = c.args.cursor.now.rest.now in
    let rest = c.begins.new.self.rest.now in
    let old = c.args.self.now.tasks.items in
    opening_fails c.from_residual.result c.in_err-more.field-0.0 names
    c.args.self.now.cells.items (task.First list depth) old depth bytes rest
    (elements_by list (begins bytes)) c.from_residual.ensures.1
    (element_fails list c.in_err-more.field-0.0 (begins bytes)
    (gives_fails (λ more. more) c.in_err-more.field-0.0 rest (begins bytes)
    c.in_err-more.ensures.gives))
    (first_law list depth (reverse old) bytes)

pub returns-clause-gives : goal.returns-clause-gives
returns-clause-gives c =
    λ names.
    let list = c.args.of in
    let depth = c.args.depth in
    let bytes = c.args.cursor.now.rest.now in
    let rest = c.begins.new.self.rest.now in
    let old = c.args.self.now.tasks.items in
    put_goes c.put.result names c.args.self.now.cells.items c.put.new.self.cells.items
    c.element.result (task.First list depth) old c.put.new.self.tasks.items depth bytes rest
    (elements_by list (begins bytes)) c.put.ensures.cells c.put.ensures.tasks c.put.ensures.err
    (first_law list depth (reverse old) bytes)
    (element_gave names list c.in_ok-more.more c.element.result (begins bytes) rest
    c.element.ensures c.in_ok-more.ensures.gives)

pub returns-clause-known : goal.returns-clause-known
returns-clause-known c =
    λ names.
    element_known c.put.result names c.args.self.now.cells.items c.put.new.self.cells.items
    c.args.of c.in_ok-more.more c.element.result c.element.ensures c.put.ensures.cells

pub returns-clause-fewer : goal.returns-clause-fewer
returns-clause-fewer c =
    fewer_first c.put.result c.args.of c.in_ok-more.more c.element.result
    c.args.self.now.tasks.items c.put.new.self.tasks.items c.args.depth
    c.args.cursor.now.rest.now c.begins.new.self.rest.now c.element.ensures c.put.ensures.tasks
    c.in_ok-more.ensures.shorter
