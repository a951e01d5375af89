use Rattle.std.proofs.Common.{◌∙◌, ◌++◌, ap, sym}
use Rattle.cu_translation.specs.Around.{Numbers}
use Rattle.cu_translation.specs.Meaning.{position_meaning}
use Rattle.cu_translation.specs.Numbering.{all_binders, all_functions}
use Rattle.cu_desugar.proofs.around.AroundSurroundings.function.Goals as goal

pub returns : goal.returns
returns c w is =
    c.function.ensures (all_binders is.nodes ++ is.last) (all_functions is.nodes) is.numbered ∙ sym (ap (λ (n : Numbers). n.function (position_meaning c.args.at)) is.numbers)
