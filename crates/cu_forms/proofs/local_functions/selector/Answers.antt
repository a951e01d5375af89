use Rattle.std.proofs.Common.{◌∙◌, ◌∷◌, [], ap, map}
use Rattle.cu_kernel.specs.LocalTerm.{Variable}
use Rattle.cu_kernel.specs.LocalTermsOf.{local_term_of, local_term_of-Var}
use Rattle.cu_kernel.specs.TermsOf.{pattern_of}
use Rattle.cu_kernel.specs.declared.local.LocalTerm.TheVariants as boxed
use Rattle.cu_translation.specs.LocalNames.{Selected}
use Rattle.cu_forms.specs.Forms.{pattern_form}
use Rattle.cu_forms.proofs.CallLemmas.{if_ok}
use Rattle.cu_forms.proofs.FunctionLemmas.{selector_is}
use Rattle.cu_forms.proofs.local_functions.selector.Goals as goal

pub returns : goal.returns
returns g c w tells of =
    if_ok c.new_function.result
    (λ f e. e ∙ selector_is w c.args.p c.args.name (local_term_of (boxed.Var c.variable.result)) (map pattern_of c.in_ok-params.params.items)
    (ap (map pattern_of) c.in_ok-params.ensures.items ∙ ap (λ q. q ∷ []) (c.in_ok-matched.ensures w tells of ∙ ap (λ p. pattern_form w (Selected p) c.args.p) c.of-at.ensures))
    (local_term_of-Var c.variable.result ∙ ap Variable (c.variable.ensures w tells ∙ ap (λ p. w.around.numbers.variable (Selected p p)) c.of-at.ensures)))
    (c.new_function.ensures w tells)
