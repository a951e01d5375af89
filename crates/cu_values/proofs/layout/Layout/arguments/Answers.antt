use Rattle.std.proofs.Common.{◌-◌, ◌∷◌, codes, arith, reverse}
use Rattle.std.specs.String.{string_bytes}
use Rattle.cu_values.specs.Inside.LabelsOf.{labels_meaning}
use Rattle.cu_values.specs.declared.task.Task.TheVariants.{Argument, Arguments}
use Rattle.cu_values.proofs.StepLemmas.{arguments_here, composed_ok, pushed, pushed_length}
use Rattle.cu_values.proofs.WriteLemmas.{prepared}
use Rattle.cu_values.proofs.layout.Layout.arguments.Goals as goal

pub argument-requires-clause-ready : goal.argument-requires-clause-ready
argument-requires-clause-ready c =
    let labels = labels_meaning c.args.self.now.names.now in
    let cells = c.args.self.now.cells.now in
    let tasks = c.args.pen.now.tasks.items in
    let rule = arguments_here labels cells c.args.at tasks c.args.count c.requires.ready (omega arith) in
    prepared labels cells c.args.at tasks (Arguments c.args.count) c.push.new.self.items Argument (codes " ") (Arguments (c.args.count - 1) ∷ reverse tasks) c.requires.ready rule
    (pushed tasks c.push.new.self.items (Arguments (c.args.count - 1)) c.in_ok-push.ensures.items)

pub returns : goal.returns
returns c =
    let labels = labels_meaning c.args.self.now.names.now in
    let cells = c.args.self.now.cells.now in
    let tasks = c.args.pen.now.tasks.items in
    let rule = arguments_here labels cells c.args.at tasks c.args.count c.requires.ready (omega arith) in
    composed_ok c.argument.result labels cells c.args.at tasks (Arguments c.args.count) c.push.new.self.items Argument (codes " ")
    (Arguments (c.args.count - 1) ∷ reverse tasks) (string_bytes c.args.pen.now.text) (string_bytes c.push_str.new.self) c.argument.new.pen.tasks.items
    (string_bytes c.argument.new.pen.text) 1 5 rule (pushed tasks c.push.new.self.items (Arguments (c.args.count - 1)) c.in_ok-push.ensures.items)
    c.in_ok-push_str.ensures.bytes c.argument.ensures
    (omega (arith, pushed_length tasks c.push.new.self.items (Arguments (c.args.count - 1)) c.in_ok-push.ensures.items))
