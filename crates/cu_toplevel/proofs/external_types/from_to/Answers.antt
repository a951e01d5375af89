use Rattle.std.proofs.Common.{◌∙◌, ap₂}
use Rattle.cu_kernel.specs.TypeExpr.{Arrow}
use Rattle.cu_toplevel.proofs.TypeLemmas.{if_ok}
use Rattle.cu_toplevel.proofs.external_types.from_to.Goals as goal

pub returns : goal.returns
returns c = λ names around tells. if_ok c.arrow.result (λ made is. is ∙ ap₂ Arrow (c.called.ensures names around tells) (c.called-2.ensures names around tells)) c.arrow.ensures
