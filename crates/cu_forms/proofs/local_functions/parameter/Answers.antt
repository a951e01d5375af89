use Rattle.std.proofs.Common.{◌∙◌, ap}
use Rattle.cu_calculus.specs.Term.{Any}
use Rattle.cu_kernel.specs.TermsOf.{pattern_of-Var}
use Rattle.cu_translation.specs.LocalNames.{At}
use Rattle.cu_forms.proofs.local_functions.parameter.Goals as goal

pub returns : goal.returns
returns g c w tells = pattern_of-Var c.variable.result ∙ ap Any (c.variable.ensures w tells ∙ ap (λ p. w.around.numbers.variable (At p)) c.of.ensures)
