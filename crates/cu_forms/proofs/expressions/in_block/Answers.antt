use Rattle.std.proofs.Common.{◌∙◌, ap}
use Rattle.cu_kernel.specs.LocalTermsOf.{local_term_of}
use Rattle.cu_uses.specs.Gathered.{names_meaning}
use Rattle.cu_forms.specs.Forms.{block_term}
use Rattle.cu_forms.specs.Inside.Blocks.{bounds_meaning}
use Rattle.cu_forms.proofs.CallLemmas.{if_ok}
use Rattle.cu_forms.proofs.expressions.in_block.Goals as goal

pub returns : goal.returns
returns g c w tells =
    let bounds = bounds_meaning c.args.bounds.items in
    let inner = local_term_of c.args.inner in
    if_ok c.block.result
    (λ t e. e ∙ ap (λ xs. block_term w (names_meaning w.names xs) bounds inner) c.as_slice.ensures.value ∙ ap (λ xs. block_term w xs bounds inner) (c.in_ok-free.ensures w.names))
    (c.block.ensures w tells)
