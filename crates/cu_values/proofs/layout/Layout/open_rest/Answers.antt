use Rattle.std.specs.String.{string_bytes}
use Rattle.cu_values.specs.Inside.LabelsOf.{labels_meaning}
use Rattle.cu_values.proofs.StepLemmas.{open_rest_step}
use Rattle.cu_values.proofs.layout.Layout.open_rest.Goals as goal

pub returns : goal.returns
returns c =
    open_rest_step (labels_meaning c.args.self.now.names.now) c.args.self.now.cells.now c.args.at c.args.pen.now.tasks.items c.push.new.self.items c.push-2.new.self.items
    (string_bytes c.args.pen.now.text) (string_bytes c.push_str.new.self) c.requires.ready (λ n e. c.in_default.not-LVar n e)
    c.in_ok-push_str.ensures.bytes c.in_ok-push.ensures.items c.in_ok-push-2.ensures.items
