use Rattle.std.proofs.Common.{◌∙◌}
use Rattle.cu_forms.proofs.BlockLemmas.{block_is}
use Rattle.cu_forms.proofs.CallLemmas.{if_ok}
use Rattle.cu_forms.proofs.blocks.block.Goals as goal

pub returns : goal.returns
returns g c w tells =
    if_ok c.with_free.result
    (λ t e. e ∙ block_is w c.args.free.now c.args.bounds.items c.in_ok-ordered.field-0.items c.in_ok-inner.inner c.args.term (c.in_ok-inner.ensures w tells) (c.in_ok-ordered.ensures w tells))
    (c.with_free.ensures w tells)
