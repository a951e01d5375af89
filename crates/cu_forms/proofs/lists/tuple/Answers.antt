use Rattle.std.proofs.Common.{◌≡◌, ◌∙◌, length, arith}
use Rattle.cu_forms.proofs.CallLemmas.{if_ok}
use Rattle.cu_forms.proofs.ListLemmas.{tuple_is}
use Rattle.cu_forms.proofs.lists.tuple.Goals as goal

pub returns : goal.returns
returns g c w tells =
    let size : c.len.result ≡ length c.args.terms.items = omega arith in
    if_ok c.built_in.result (λ t e. e ∙ tuple_is w.around.names c.len.result c.args.terms.items size) (c.built_in.ensures w tells)
