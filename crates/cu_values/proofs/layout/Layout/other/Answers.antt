use Rattle.std.proofs.Common.{rules, ◌≡◌, ℕ, ◌-◌, ◌++◌, List, true, false, arith, ap, ◌∙◌}
use borrow.Author.Tests.{tests}
use Rattle.std.specs.String.{string_bytes}
use Rattle.cu_values.specs.Inside.LabelsOf.{labels_meaning}
use Rattle.cu_values.specs.declared.shape.Shape.TheVariants.{Character}
use Rattle.cu_values.specs.Display.{in_parentheses, is_operator}
use Rattle.cu_values.proofs.StepLemmas.{application_step, headed, tuple_step, unit_step}
use Rattle.cu_values.proofs.layout.Layout.other.Goals as goal

pub returns-then-arity-eq0 : goal.returns-then-arity-eq0
returns-then-arity-eq0 c =
    let labels = labels_meaning c.args.self.now.names.now in
    let tuple : labels.tuple c.args.constructor ≡ true = search (rules, tests) in
    unit_step labels c.args.self.now.cells.now c.args.at c.args.pen.now.tasks.items c.push.new.self.items (string_bytes c.args.pen.now.text)
    (string_bytes c.push_str.new.self) c.args.constructor c.args.arity _ c.requires.ready
    (headed labels c.args.self.now.cells.now c.args.self.now.shapes.now c.args.at c.args.pen.now.tasks.items c.args.constructor c.args.arity Character c.requires.ready
    c.requires.cell c.requires.shapes)
    c.requires.shape tuple (omega arith) c.in_ok-push_str.ensures.bytes c.in_ok-push.ensures.items

pub returns-then-is_tuple : goal.returns-then-is_tuple
returns-then-is_tuple c =
    let labels = labels_meaning c.args.self.now.names.now in
    let tuple : labels.tuple c.args.constructor ≡ true = search (rules, tests) in
    tuple_step labels c.args.self.now.cells.now c.args.at c.args.pen.now.tasks.items c.push.new.self.items c.push-then-is_tuple.new.self.items
    c.push-then-is_tuple-2.new.self.items (string_bytes c.args.pen.now.text) (string_bytes c.push_str.new.self) c.args.constructor c.args.arity (c.args.arity - 1) _
    c.requires.ready
    (headed labels c.args.self.now.cells.now c.args.self.now.shapes.now c.args.at c.args.pen.now.tasks.items c.args.constructor c.args.arity Character c.requires.ready
    c.requires.cell c.requires.shapes)
    c.requires.shape tuple (omega arith) c.in_ok-push_str.ensures.bytes c.in_ok-push.ensures.items c.in_ok-push-2.ensures.items c.in_ok-push-3.ensures.items

pub returns : goal.returns
returns c =
    let labels = labels_meaning c.args.self.now.names.now in
    let tuple : labels.tuple c.args.constructor ≡ false = search (rules, tests) in
    let written : string_bytes c.push_constructor.new.text
    ≡ string_bytes c.args.pen.now.text ++ in_parentheses (is_operator (labels.constructor c.args.constructor)) (labels.constructor c.args.constructor) =
    c.in_ok-push_constructor.ensures
    ∙ ap (λ (name : List ℕ). string_bytes c.args.pen.now.text ++ in_parentheses (is_operator name) name) c.constructor.ensures in
    application_step labels c.args.self.now.cells.now c.args.at c.args.pen.now.tasks.items c.push-2.new.self.items (string_bytes c.args.pen.now.text)
    (string_bytes c.push_constructor.new.text) c.args.constructor c.args.arity _ c.requires.ready
    (headed labels c.args.self.now.cells.now c.args.self.now.shapes.now c.args.at c.args.pen.now.tasks.items c.args.constructor c.args.arity Character c.requires.ready
    c.requires.cell c.requires.shapes)
    c.requires.shape tuple written c.in_ok-push-4.ensures.items
