use Rattle.std.proofs.Common.{◌∙◌, ap₂}
use Rattle.cu_kernel.specs.TypeExpr.{Arrow}
use Rattle.cu_kernel.specs.TypesOf.{type_of-Var}
use Rattle.cu_toplevel.proofs.TypeLemmas.{if_ok}
use Rattle.cu_toplevel.proofs.external_types.on_any.Goals as goal

pub returns : goal.returns
returns c = λ names around tells.
    let second = c.in_ok-from_second.ensures ∙ ap₂ Arrow (type_of-Var 0) (c.called-truth.ensures names around tells) in
    if_ok c.arrow-2.result (λ made is. is ∙ ap₂ Arrow (type_of-Var 0) second) c.arrow-2.ensures
