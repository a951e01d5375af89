use Rattle.std.proofs.Common.{ap, ◌∙◌}
use Rattle.cu_kernel.specs.TypesOf.{type_of, type_of-Arrow}
use Rattle.cu_flattext.specs.Inside.Circles.{is_known}
use Rattle.cu_flattext.specs.TypeTexts.{is_or_passes}
use Rattle.cu_flattext.proofs.CircleLemmas.{looked_arrow}
use Rattle.cu_flattext.proofs.circles.look.Goals as goal

pub returns-in_ok-push-in-Arrow-2 : goal.returns-in_ok-push-in-Arrow-2
returns-in_ok-push-in-Arrow-2 c =
    looked_arrow (is_or_passes c.args.goal (is_known c.args.known.now)) c.args.left.now.items c.push.new.self.items c.push-in-Arrow.new.self.items
    c.deref.result c.deref-in-Arrow.result (type_of c.args.t.now) (type_of c.in-Arrow.argument.value) (type_of c.in-Arrow.value.value)
    (ap type_of c.in-Arrow.is ∙ type_of-Arrow c.in-Arrow.argument c.in-Arrow.value) (ap type_of c.deref.ensures) (ap type_of c.deref-in-Arrow.ensures)
    c.in_ok-push-in-Arrow.ensures.items c.in_ok-push-in-Arrow-2.ensures.items
