use Rattle.std.proofs.Common.{◌∙◌, ◌∷◌, [], ap, codes, map}
use Rattle.cu_kernel.specs.LocalTermsOf.{local_term_of}
use Rattle.cu_forms.specs.Inside.Calls.{built_in_term}
use Rattle.cu_forms.proofs.CallLemmas.{if_ok}
use Rattle.cu_forms.proofs.term_parts.mapped.Goals as goal

pub returns : goal.returns
returns g c w tells =
    let maps = built_in_term w.around.names (codes "concatMap") in
    if_ok c.built_in.result
    (λ t e. e ∙ ap (λ xs. maps (map local_term_of xs)) c.in_ok-arguments.ensures.items ∙ ap (λ f. maps (f ∷ local_term_of c.args.elements ∷ [])) (c.local_function-function.ensures w tells))
    (c.built_in.ensures w tells)
