use Rattle.std.proofs.Common.{◌-◌, ◌∷◌, codes, arith, reverse}
use Rattle.std.specs.String.{string_bytes}
use Rattle.cu_values.specs.Inside.LabelsOf.{labels_meaning}
use Rattle.cu_values.specs.declared.task.Task.TheVariants.{Alone, Components}
use Rattle.cu_values.proofs.StepLemmas.{components_here, composed_ok, pushed, pushed_length}
use Rattle.cu_values.proofs.WriteLemmas.{prepared}
use Rattle.cu_values.proofs.layout.Layout.components.Goals as goal

pub value-requires-clause-ready : goal.value-requires-clause-ready
value-requires-clause-ready c =
    let labels = labels_meaning c.args.self.now.names.now in
    let cells = c.args.self.now.cells.now in
    let tasks = c.args.pen.now.tasks.items in
    let rule = components_here labels cells c.args.at tasks c.args.count c.requires.ready (omega arith) in
    prepared labels cells c.args.at tasks (Components c.args.count) c.push.new.self.items Alone (codes ",") (Components (c.args.count - 1) ∷ reverse tasks) c.requires.ready rule
    (pushed tasks c.push.new.self.items (Components (c.args.count - 1)) c.in_ok-push.ensures.items)

pub returns : goal.returns
returns c =
    let labels = labels_meaning c.args.self.now.names.now in
    let cells = c.args.self.now.cells.now in
    let tasks = c.args.pen.now.tasks.items in
    let rule = components_here labels cells c.args.at tasks c.args.count c.requires.ready (omega arith) in
    composed_ok c.value.result labels cells c.args.at tasks (Components c.args.count) c.push.new.self.items Alone (codes ",")
    (Components (c.args.count - 1) ∷ reverse tasks) (string_bytes c.args.pen.now.text) (string_bytes c.push_str.new.self) c.value.new.pen.tasks.items
    (string_bytes c.value.new.pen.text) 1 6 rule (pushed tasks c.push.new.self.items (Components (c.args.count - 1)) c.in_ok-push.ensures.items)
    c.in_ok-push_str.ensures.bytes c.value.ensures
    (omega (arith, pushed_length tasks c.push.new.self.items (Components (c.args.count - 1)) c.in_ok-push.ensures.items))
