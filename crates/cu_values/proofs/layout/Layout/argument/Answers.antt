use Rattle.std.proofs.Common.{◌≡◌, [], ◌∷◌, codes, refl, false, true, append-nil, arith, drop, reverse, sym, ◌∙◌}
use Rattle.std.specs.String.{string_bytes}
use Rattle.cu_values.specs.Cells.{first, read_all}
use Rattle.cu_values.specs.Display.{takes_parentheses}
use Rattle.cu_values.specs.Inside.LabelsOf.{labels_meaning}
use Rattle.cu_values.specs.declared.shape.Shape.TheVariants.{Character}
use Rattle.cu_values.specs.declared.task.Task.TheVariants.{Alone, Argument, ClosingParenthesis}
use Rattle.cu_values.proofs.StepLemmas.{composed_ok, enclosed_here, pushed, pushed_length, shapes_within}
use Rattle.cu_values.proofs.WriteLemmas.{argument_rule, enclosed_rule, place}
use Rattle.cu_values.proofs.layout.Layout.argument.Goals as goal

pub bounds-self-at : goal.bounds-self-at
bounds-self-at c =
    shapes_within (labels_meaning c.args.self.now.names.now) c.args.self.now.cells.now c.args.self.now.shapes.now c.args.at c.requires.shapes
    (place (labels_meaning c.args.self.now.names.now) c.args.self.now.cells.now c.args.at c.args.pen.now.tasks.items Argument c.requires.ready refl)

pub returns-then-not-takes_parentheses : goal.returns-then-not-takes_parentheses
returns-then-not-takes_parentheses c =
    let labels = labels_meaning c.args.self.now.names.now in
    let cells = c.args.self.now.cells.now in
    let tasks = c.args.pen.now.tasks.items in
    let text = string_bytes c.args.pen.now.text in
    let plain : takes_parentheses labels (first (read_all (drop c.args.at cells))) ≡ false =
    enclosed_here labels cells c.args.self.now.shapes.now c.args.at Character c.takes_parentheses.result c.requires.shapes
    (place labels cells c.args.at tasks Argument c.requires.ready refl) c.takes_parentheses.ensures
    ∙ c.if-not-takes_parentheses.true in
    composed_ok c.value.result labels cells c.args.at tasks Argument tasks Alone [] (reverse tasks) text text c.value.new.pen.tasks.items
    (string_bytes c.value.new.pen.text) 5 6 (argument_rule labels (read_all (drop c.args.at cells)) (reverse tasks) plain) refl (sym (append-nil text)) c.value.ensures
    (omega arith)

pub returns : goal.returns
returns c =
    let labels = labels_meaning c.args.self.now.names.now in
    let cells = c.args.self.now.cells.now in
    let tasks = c.args.pen.now.tasks.items in
    let enclosed : takes_parentheses labels (first (read_all (drop c.args.at cells))) ≡ true =
    enclosed_here labels cells c.args.self.now.shapes.now c.args.at Character c.takes_parentheses.result c.requires.shapes
    (place labels cells c.args.at tasks Argument c.requires.ready refl) c.takes_parentheses.ensures
    ∙ c.if-not-takes_parentheses.false in
    composed_ok c.value-2.result labels cells c.args.at tasks Argument c.push.new.self.items Alone (codes "(") (ClosingParenthesis ∷ reverse tasks)
    (string_bytes c.args.pen.now.text) (string_bytes c.push_str.new.self) c.value-2.new.pen.tasks.items (string_bytes c.value-2.new.pen.text) 5 6
    (enclosed_rule labels (read_all (drop c.args.at cells)) (reverse tasks) enclosed) (pushed tasks c.push.new.self.items ClosingParenthesis c.in_ok-push.ensures.items)
    c.in_ok-push_str.ensures.bytes c.value-2.ensures
    (omega (arith, pushed_length tasks c.push.new.self.items ClosingParenthesis c.in_ok-push.ensures.items))
