use Rattle.std.proofs.Common.{Vec, Global, ◌∷◌, [], Ok, ap, map, subst, sym, ◌∙◌}
use Rattle.std.proofs.lemmas.List.Elements.{recursion_from_All}
use Rattle.cu_flatread.proofs.ExpressionGoesLemmas.{expression_alone, expression_alone_stops}
use Rattle.cu_flatread.proofs.ExpressionLabelLemmas.{one_expression}
use Rattle.cu_flatread.proofs.LoopLemmas.{fails_by, handed_on}
use Rattle.cu_flatread.specs.FlatText.{most_nested}
use Rattle.cu_flatread.specs.Inside.Expressions.{expression_at}
use Rattle.cu_flatread.specs.Inside.ExpressionTasks.{HasCell, label, tasks_at}
use Rattle.cu_flatread.specs.Meaning.{HasExpression, expression_of}
use Rattle.cu_flatread.specs.declared.cells.ExpressionCell.{ExpressionCell}
use Rattle.cu_flatread.specs.declared.expressions.Task.TheVariants as task
use Rattle.cu_flatread.proofs.expressions.expression_at.Goals as goal

pub returns-in_err-cells-clause-gives : goal.returns-in_err-cells-clause-gives
returns-in_err-cells-clause-gives c =
    let bytes = c.args.cursor.now.rest.now in
    let rest = c.cells.new.cursor.rest.now in
    let names = c.cells.new.names in
    handed_on (expression_of names) c.from_residual.result c.in_err-cells.field-0.0 rest
    (expression_at most_nested bytes) c.from_residual.ensures.1
    (fails_by {X = Vec ExpressionCell Global} (λ cells. map (label names) cells.items)
    c.in_err-cells.field-0.0 rest (tasks_at (task.Expression most_nested ∷ []) bytes)
    (expression_at most_nested bytes)
    (λ left. expression_alone_stops most_nested bytes left) c.in_err-cells.ensures.gives)

pub spelled-requires : goal.spelled-requires
spelled-requires c =
    let bytes = c.args.cursor.now.rest.now in
    let rest = c.cells.new.cursor.rest.now in
    let names = c.cells.new.names in
    let cells = c.in_ok-cells.cells.items in
    let t = expression_alone most_nested bytes rest (map (label names) cells)
    c.in_ok-cells.ensures.gives in
    let tree =
    one_expression names t.0 cells t.2
    (recursion_from_All (HasCell names) cells c.in_ok-cells.ensures.known) in
    tree.one

pub returns-clause-gives : goal.returns-clause-gives
returns-clause-gives c =
    let bytes = c.args.cursor.now.rest.now in
    let rest = c.cells.new.cursor.rest.now in
    let names = c.cells.new.names in
    let cells = c.in_ok-cells.cells.items in
    let t = expression_alone most_nested bytes rest (map (label names) cells)
    c.in_ok-cells.ensures.gives in
    let tree =
    one_expression names t.0 cells t.2
    (recursion_from_All (HasCell names) cells c.in_ok-cells.ensures.known) in
    t.1 ∙ ap (λ x. Ok (x, rest)) (sym tree.is ∙ ap (expression_of names) (sym c.spelled.ensures))

pub returns-clause-known : goal.returns-clause-known
returns-clause-known c =
    let bytes = c.args.cursor.now.rest.now in
    let rest = c.cells.new.cursor.rest.now in
    let names = c.cells.new.names in
    let cells = c.in_ok-cells.cells.items in
    let t = expression_alone most_nested bytes rest (map (label names) cells)
    c.in_ok-cells.ensures.gives in
    let tree =
    one_expression names t.0 cells t.2
    (recursion_from_All (HasCell names) cells c.in_ok-cells.ensures.known) in
    subst (HasExpression names) (sym c.spelled.ensures) tree.has
