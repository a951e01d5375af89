use Rattle.std.proofs.Common.{◌∙◌, ap, sym}
use Rattle.cu_kernel.specs.LocalTermsOf.{local_term_of}
use Rattle.cu_forms.specs.Inside.Blocks.{layers_around}
use Rattle.cu_forms.proofs.BlockLemmas.{last_layer}
use Rattle.cu_forms.proofs.layers.around_rest.Goals as goal

pub loop-layer-preserved : goal.loop-layer-preserved
loop-layer-preserved g c w tells =
    let left = c.pop.new.self.items in
    let rest = local_term_of c.loop-layer.inner in
    ap (layers_around w left) (c.in_ok-inner.ensures w tells) ∙ sym (last_layer w left c.in-Some.layer rest)
    ∙ ap (λ xs. layers_around w xs rest) (sym c.in-Some.ensures.items) ∙ c.loop-layer.invariant w tells
