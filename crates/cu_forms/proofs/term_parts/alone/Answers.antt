use Rattle.std.proofs.Common.{◌∙◌, None, ap, map}
use Rattle.cu_kernel.specs.LocalTermsOf.{local_term_of}
use Rattle.cu_translation.specs.Meaning.{referent_meaning}
use Rattle.cu_forms.specs.Inside.Calls.{referred_on}
use Rattle.cu_forms.proofs.CallLemmas.{if_ok}
use Rattle.cu_forms.proofs.ExpressionLemmas.{alone_is}
use Rattle.cu_forms.proofs.term_parts.alone.Goals as goal

pub returns : goal.returns
returns c =
    let r = referent_meaning c.args.means in
    if_ok c.referred.result (λ t e. e ∙ ap (λ xs. referred_on r None (map local_term_of xs)) c.new.ensures.items ∙ alone_is r) c.referred.ensures
