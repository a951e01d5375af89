use Rattle.std.proofs.Common.{◌∙◌, ap, map}
use Rattle.cu_kernel.specs.LocalTermsOf.{local_term_of}
use Rattle.cu_forms.specs.Inside.Lists.{list_term}
use Rattle.cu_forms.proofs.CallLemmas.{if_ok}
use Rattle.cu_forms.proofs.term_parts.single.Goals as goal

pub returns : goal.returns
returns g c w tells =
    if_ok c.list.result (λ t e. e ∙ ap (λ xs. list_term w.around.names (map local_term_of xs)) c.in_ok-elements.ensures.items) (c.list.ensures w tells)
