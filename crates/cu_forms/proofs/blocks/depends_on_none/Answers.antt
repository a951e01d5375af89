use Rattle.std.proofs.Common.{◌∙◌, ap, sym}
use Rattle.std.specs.List.{list_any}
use Rattle.std.specs.Prelude.{not}
use Rattle.cu_translation.specs.Blocks.{Bound}
use Rattle.cu_translation.specs.Meaning.{binder_meaning}
use Rattle.cu_forms.specs.Inside.Blocks.{bounds_meaning}
use Rattle.cu_forms.proofs.BlockLemmas.{any_later, any_nowhere}
use Rattle.cu_forms.proofs.blocks.depends_on_none.Goals as goal

pub loop-other-preserved : goal.loop-other-preserved
loop-other-preserved g c w tells =
    let p = λ (b : Bound). w.around.numbers.depends (binder_meaning c.args.variable) b.variable in
    any_later p c.args.left.now c.loop-other.other-index c.other-item.result (list_any p (bounds_meaning c.args.left.now)) c.loop-other-test.true c.other-item.is
    (sym (c.depends.ensures w tells) ∙ c.if-depends.false) (c.loop-other.invariant w tells)

pub returns : goal.returns
returns g c w tells =
    let p = λ (b : Bound). w.around.numbers.depends (binder_meaning c.args.variable) b.variable in
    ap not (any_nowhere p c.args.left.now c.loop-other.other-index (list_any p (bounds_meaning c.args.left.now)) c.loop-other-test.false (c.loop-other.invariant w tells))
