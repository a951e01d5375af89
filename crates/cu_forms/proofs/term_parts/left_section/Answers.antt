use Rattle.std.proofs.Common.{◌∙◌, ap, map}
use Rattle.std.specs.Option.{option_map}
use Rattle.cu_kernel.specs.LocalTermsOf.{local_term_of}
use Rattle.cu_translation.specs.Meaning.{referent_meaning}
use Rattle.cu_forms.specs.Inside.Calls.{referred_on}
use Rattle.cu_forms.proofs.CallLemmas.{if_ok}
use Rattle.cu_forms.proofs.term_parts.left_section.Goals as goal

pub returns : goal.returns
returns c =
    if_ok c.referred.result
    (λ t e. e ∙ ap (λ xs. referred_on (referent_meaning c.args.means) (option_map referent_meaning c.args.name) (map local_term_of xs)) c.in_ok-arguments.ensures.items)
    c.referred.ensures
