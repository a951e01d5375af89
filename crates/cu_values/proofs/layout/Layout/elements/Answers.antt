use Rattle.std.proofs.Common.{arith}
use Rattle.cu_values.specs.Inside.LabelsOf.{labels_meaning}
use Rattle.std.specs.String.{string_bytes}
use Rattle.cu_values.proofs.StepLemmas.{elements_end_step, elements_step}
use Rattle.cu_values.proofs.layout.Layout.elements.Goals as goal

pub returns-then-arity-eq0 : goal.returns-then-arity-eq0
returns-then-arity-eq0 c =
    elements_end_step (labels_meaning c.args.self.now.names.now) c.args.self.now.cells.now c.args.at c.args.pen.now.tasks.items (string_bytes c.args.pen.now.text)
    c.requires.ready (omega (arith, c.arity.ensures))

pub returns : goal.returns
returns c =
    elements_step (labels_meaning c.args.self.now.names.now) c.args.self.now.cells.now c.args.at c.args.pen.now.tasks.items c.push.new.self.items
    c.push-2.new.self.items (string_bytes c.args.pen.now.text) (string_bytes c.push_str.new.self) c.requires.ready (omega (arith, c.arity.ensures))
    c.in_ok-push_str.ensures.bytes c.in_ok-push.ensures.items c.in_ok-push-2.ensures.items
