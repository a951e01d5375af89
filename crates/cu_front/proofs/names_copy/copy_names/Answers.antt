use Rattle.std.proofs.Common.{◌∙◌, List, ℕ, ap}
use Rattle.cu_names.specs.Texts.{interned}
use Rattle.cu_front.proofs.CopyLemmas.{next}
use Rattle.cu_front.proofs.names_copy.copy_names.Goals as goal

pub loop-number-preserved : goal.loop-number-preserved
loop-number-preserved c =
    let text = c.text.result.now in
    c.in_ok-intern.ensures.names ∙ ap (λ (t : List (List ℕ)). interned t text) c.loop-number.invariant
    ∙ next c.args.names.now c.loop-number.number text c.count-count.ensures.differ c.text.ensures.text
