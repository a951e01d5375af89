use Rattle.std.proofs.Common.{◌∙◌, ap}
use Rattle.cu_kernel.specs.TypeExpr.{Variable}
use Rattle.cu_kernel.specs.TypesOf.{type_of-Var}
use Rattle.cu_toplevel.proofs.types.variable.Goals as goal

pub returns : goal.returns
returns c = λ owner table differ own all. type_of-Var c.in_ok-place.place ∙ ap Variable (c.in_ok-place.ensures ∙ c.place_among.ensures owner table differ own.text all)
