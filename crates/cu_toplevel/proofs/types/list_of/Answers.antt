use Rattle.std.proofs.Common.{◌∙◌, ap, ap₂}
use Rattle.cu_kernel.specs.TypeExpr.{Named}
use Rattle.cu_kernel.specs.TypesOf.{type_of-Named, types_of}
use Rattle.cu_toplevel.proofs.types.list_of.Goals as goal

pub returns : goal.returns
returns c = λ names around tells.
    type_of-Named c.prelude_type-name.result c.in_ok-arguments.arguments ∙ ap₂ Named (c.prelude_type-name.ensures names around tells) (ap types_of c.in_ok-arguments.ensures.items)
