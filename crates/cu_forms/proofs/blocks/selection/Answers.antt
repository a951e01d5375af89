use Rattle.std.proofs.Common.{◌∙◌}
use Rattle.cu_forms.proofs.BlockLemmas.{selected}
use Rattle.cu_forms.proofs.blocks.selection.Goals as goal

pub returns : goal.returns
returns g c w p tells from =
    selected w p c.args.name c.of.result c.of-2.result c.of-3.result c.variable-whole.result c.function-selector.result c.in_ok-arguments.arguments
    (c.of.ensures ∙ from) c.of-2.ensures c.of-3.ensures (c.variable-whole.ensures w tells) (c.function-selector.ensures w tells) c.in_ok-arguments.ensures.items
