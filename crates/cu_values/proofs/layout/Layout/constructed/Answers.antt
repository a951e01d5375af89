use Rattle.std.proofs.Common.{refl}
use Rattle.std.specs.String.{string_bytes}
use Rattle.cu_values.specs.Inside.LabelsOf.{labels_meaning}
use Rattle.cu_values.specs.declared.shape.Shape.TheVariants.{Character}
use Rattle.cu_values.specs.declared.task.Task.TheVariants.{Alone}
use Rattle.cu_values.proofs.StepLemmas.{empty_step, headed, list_step, open_step, other_shape_by, shapes_within}
use Rattle.cu_values.proofs.WriteLemmas.{place}
use Rattle.cu_values.proofs.layout.Layout.constructed.Goals as goal

pub bounds : goal.bounds
bounds c =
    shapes_within (labels_meaning c.args.self.now.names.now) c.args.self.now.cells.now c.args.self.now.shapes.now c.args.at c.requires.shapes
    (place (labels_meaning c.args.self.now.names.now) c.args.self.now.cells.now c.args.at c.args.pen.now.tasks.items Alone c.requires.ready refl)

pub other-requires-clause-shape : goal.other-requires-clause-shape
other-requires-clause-shape c =
    let labels = labels_meaning c.args.self.now.names.now in
    other_shape_by labels c.args.self.now.cells.now c.args.at c.args.constructor c.args.arity _
    (headed labels c.args.self.now.cells.now c.args.self.now.shapes.now c.args.at c.args.pen.now.tasks.items c.args.constructor c.args.arity Character c.requires.ready
    c.requires.cell c.requires.shapes)
    c.in_default.not-Text c.in_default.not-Empty c.in_default.not-List c.in_default.not-Open

pub returns-in_ok-push_str-in-Empty : goal.returns-in_ok-push_str-in-Empty
returns-in_ok-push_str-in-Empty c =
    let labels = labels_meaning c.args.self.now.names.now in
    empty_step labels c.args.self.now.cells.now c.args.at c.args.pen.now.tasks.items (string_bytes c.args.pen.now.text) (string_bytes c.push_str.new.self)
    c.args.constructor c.args.arity _ c.requires.ready
    (headed labels c.args.self.now.cells.now c.args.self.now.shapes.now c.args.at c.args.pen.now.tasks.items c.args.constructor c.args.arity Character c.requires.ready
    c.requires.cell c.requires.shapes)
    c.in-Empty.is c.in_ok-push_str-in-Empty.ensures.bytes

pub returns-in_ok-push-in-List-3 : goal.returns-in_ok-push-in-List-3
returns-in_ok-push-in-List-3 c =
    let labels = labels_meaning c.args.self.now.names.now in
    list_step labels c.args.self.now.cells.now c.args.at c.args.pen.now.tasks.items c.push.new.self.items c.push-in-List.new.self.items
    c.push-in-List-2.new.self.items (string_bytes c.args.pen.now.text) (string_bytes c.push_str-in-List.new.self) c.args.constructor c.args.arity _ c.requires.ready
    (headed labels c.args.self.now.cells.now c.args.self.now.shapes.now c.args.at c.args.pen.now.tasks.items c.args.constructor c.args.arity Character c.requires.ready
    c.requires.cell c.requires.shapes)
    c.in-List.is c.in_ok-push_str-in-List.ensures.bytes c.in_ok-push-in-List.ensures.items c.in_ok-push-in-List-2.ensures.items c.in_ok-push-in-List-3.ensures.items

pub returns-in_ok-push-in-Open-2 : goal.returns-in_ok-push-in-Open-2
returns-in_ok-push-in-Open-2 c =
    let labels = labels_meaning c.args.self.now.names.now in
    open_step labels c.args.self.now.cells.now c.args.at c.args.pen.now.tasks.items c.push-in-Open.new.self.items c.push-in-Open-2.new.self.items
    (string_bytes c.args.pen.now.text) c.args.constructor c.args.arity _ c.requires.ready
    (headed labels c.args.self.now.cells.now c.args.self.now.shapes.now c.args.at c.args.pen.now.tasks.items c.args.constructor c.args.arity Character c.requires.ready
    c.requires.cell c.requires.shapes)
    c.in-Open.is c.in_ok-push-in-Open.ensures.items c.in_ok-push-in-Open-2.ensures.items
