use Rattle.std.proofs.Common.{◌∙◌, ap, map, sym, None}
use Rattle.cu_kernel.specs.LocalTermsOf.{local_term_of}
use Rattle.cu_translation.specs.Meaning.{built_in_text}
use Rattle.cu_forms.specs.Inside.Calls.{referred_on}
use Rattle.cu_forms.proofs.CallLemmas.{built_in_by_terms, if_ok}
use Rattle.cu_forms.proofs.calls.built_in.Goals as goal

pub returns : goal.returns
returns g c w tells =
    let ts = map local_term_of c.args.arguments.items in
    if_ok c.referred.result
    (λ t e. e ∙ ap (λ r. referred_on r None ts) (c.prelude.ensures w tells) ∙ sym (built_in_by_terms w.around.names (built_in_text c.args.what) ts))
    c.referred.ensures
