use Rattle.std.proofs.Common.{◌∙◌, List, ap, map, sym}
use Rattle.cu_kernel.specs.LocalTermsOf.{local_term_of}
use Rattle.cu_syntax.specs.declared.name.Name.{Name}
use Rattle.cu_uses.specs.Gathered.{names_meaning}
use Rattle.cu_forms.specs.Forms.{block_term}
use Rattle.cu_forms.specs.Inside.Blocks.{bounds_meaning, layer_around}
use Rattle.cu_forms.specs.Inside.Lists.{distinction, list_term}
use Rattle.cu_forms.specs.declared.layers.Layer.{Layer}
use Rattle.cu_forms.proofs.CallLemmas.{if_ok}
use Rattle.cu_forms.proofs.layers.inside.Goals as goal

pub returns-in_ok-none-in-Condition : goal.returns-in_ok-none-in-Condition
returns-in_ok-none-in-Condition g c w tells =
    let rest = local_term_of c.args.rest in
    if_ok c.if_then_else.result
    (λ t e. e ∙ ap (distinction w.around.names (local_term_of c.in-Condition.condition) rest)
    (c.in_ok-none-in-Condition.ensures w tells ∙ ap (λ ts. list_term w.around.names (map local_term_of ts)) c.new.ensures.items)
    ∙ ap (λ (l : Layer). layer_around w l rest) (sym c.in-Condition.is))
    (c.if_then_else.ensures w tells)

pub returns-in-Block : goal.returns-in-Block
returns-in-Block g c w tells =
    let rest = local_term_of c.args.rest in
    if_ok c.block.result
    (λ t e. e ∙ ap (λ (free : List Name). block_term w (names_meaning w.names free) (bounds_meaning c.in-Block.bounds.items) rest) c.as_slice.ensures.value
    ∙ ap (λ (l : Layer). layer_around w l rest) (sym c.in-Block.is))
    (c.block.ensures w tells)
