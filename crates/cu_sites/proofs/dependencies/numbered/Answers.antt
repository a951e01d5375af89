use Rattle.std.proofs.Common.{◌∙◌, IfOk, List, ap, subst}
use Rattle.cu_lex.specs.Located.{Position}
use Rattle.cu_locals.specs.Places.{positions_meaning}
use Rattle.cu_translation.specs.LocalNames.{Binder}
use Rattle.cu_sites.specs.Inside.Needing.{functions_around}
use Rattle.cu_sites.specs.Inside.Using.{usages_meaning}
use Rattle.cu_sites.specs.Numbered.{HasNumbers, binders_meaning}
use Rattle.cu_sites.proofs.dependencies.numbered.Goals as goal

pub returns : goal.returns
returns c =
    subst (λ (xs : List Binder). IfOk c.counted.result (HasNumbers xs (functions_around (usages_meaning c.args.usages.now))))
    (ap binders_meaning c.as_slice.ensures.value ∙ c.in_ok-binders.ensures)
    (subst (λ (ys : List Position). IfOk c.counted.result (HasNumbers (binders_meaning c.as_slice.result.now) ys))
    (ap positions_meaning c.as_slice-2.ensures.value ∙ c.in_ok-places.ensures) c.counted.ensures)
