use Rattle.std.proofs.Common.{ap, arith}
use Rattle.cu_flatread.proofs.ExpressionGoesLemmas.{pattern_fails, pattern_goes, pattern_known}
use Rattle.cu_flatread.proofs.GoesLemmas.{on_ok}
use Rattle.cu_flatread.proofs.LoopLemmas.{gives_fails}
use Rattle.cu_flatread.specs.Inside.Expressions.{branch_pattern_at}
use Rattle.cu_flatread.specs.Inside.ExpressionTasks.{pattern_tree, weights}
use Rattle.cu_flatread.specs.Meaning.{pattern_of}
use Rattle.cu_flatread.proofs.expressions.Expressions.branch.Goals as goal

pub returns-in_err-pattern-clause-gives : goal.returns-in_err-pattern-clause-gives
returns-in_err-pattern-clause-gives c =
    let bytes = c.args.cursor.now.rest.now in
    let rest = c.branch_pattern.new.cursor.rest.now in
    let names = c.branch_pattern.new.names in
    pattern_fails c.from_residual.result c.in_err-pattern.field-0.0 names
    c.args.self.now.cells.items c.args.self.now.tasks.items bytes rest c.from_residual.ensures.1
    (gives_fails (λ p. pattern_of names (pattern_tree p)) c.in_err-pattern.field-0.0 rest
    (branch_pattern_at bytes) c.in_err-pattern.ensures.gives)

pub returns-clause-gives : goal.returns-clause-gives
returns-clause-gives c =
    pattern_goes c.put_pattern.result c.branch_pattern.new.names c.args.self.now.cells.items
    c.put_pattern.new.self.cells.items c.in_ok-pattern.pattern
    c.args.self.now.tasks.items c.put_pattern.new.self.tasks.items c.args.cursor.now.rest.now
    c.branch_pattern.new.cursor.rest.now c.put_pattern.ensures.cells c.put_pattern.ensures.tasks
    c.put_pattern.ensures.err c.in_ok-pattern.ensures.gives

pub returns-clause-known : goal.returns-clause-known
returns-clause-known c =
    pattern_known c.put_pattern.result c.args.names.now c.branch_pattern.new.names
    c.args.self.now.cells.items c.put_pattern.new.self.cells.items
    (pattern_tree c.in_ok-pattern.pattern) c.put_pattern.ensures.cells
    c.in_ok-pattern.ensures.names c.in_ok-pattern.ensures.known

pub returns-clause-fewer : goal.returns-clause-fewer
returns-clause-fewer c =
    on_ok c.put_pattern.result c.put_pattern.ensures.tasks
    (λ is. omega (arith, c.in_ok-pattern.ensures.shorter, ap weights is))
