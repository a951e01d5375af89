use Rattle.std.proofs.Common.{◌∙◌, ◌++◌, ap, sym}
use Rattle.cu_translation.specs.Around.{Numbers}
use Rattle.cu_translation.specs.Meaning.{binder_meaning}
use Rattle.cu_translation.specs.Numbering.{all_binders, all_functions}
use Rattle.cu_desugar.proofs.around.AroundSurroundings.variable.Goals as goal

pub returns : goal.returns
returns c w is =
    c.variable.ensures (all_binders is.nodes ++ is.last) (all_functions is.nodes) is.numbered ∙ sym (ap (λ (n : Numbers). n.variable (binder_meaning c.args.binder)) is.numbers)
