use Rattle.std.proofs.Common.{refl}
use Rattle.std.specs.String.{string_bytes}
use Rattle.cu_values.specs.Inside.LabelsOf.{labels_meaning}
use Rattle.cu_values.specs.declared.shape.Shape.TheVariants.{Character}
use Rattle.cu_values.specs.declared.task.Task.TheVariants.{Alone}
use Rattle.cu_values.proofs.StepLemmas.{string_letters, string_step}
use Rattle.cu_values.proofs.WriteLemmas.{place}
use Rattle.cu_values.proofs.layout.Layout.string.Goals as goal

pub push_string-requires-clause-characters : goal.push_string-requires-clause-characters
push_string-requires-clause-characters c =
    string_letters (labels_meaning c.args.self.now.names.now) c.args.self.now.cells.now c.args.self.now.shapes.now c.args.at Character c.requires.shapes
    (place (labels_meaning c.args.self.now.names.now) c.args.self.now.cells.now c.args.at c.args.pen.now.tasks.items Alone c.requires.ready refl) c.requires.shape

pub returns : goal.returns
returns c =
    string_step (labels_meaning c.args.self.now.names.now) c.args.self.now.cells.now c.args.self.now.shapes.now c.args.at c.args.pen.now.tasks.items (string_bytes c.args.pen.now.text)
    (string_bytes c.push_str.new.self) (string_bytes c.push_string.new.text) (string_bytes c.push_str-2.new.self) c.in_ok-next.next Character c.requires.ready
    c.requires.shapes c.requires.shape c.in_ok-next.ensures.after c.in_ok-next.ensures.within c.in_ok-next.ensures.spelled c.in_ok-next.ensures.others
    c.in_ok-push_str.ensures.bytes c.in_ok-next.ensures.text c.in_ok-push_str-2.ensures.bytes
