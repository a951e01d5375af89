use Rattle.std.proofs.Common.{◌∙◌, ap, ap₂}
use Rattle.cu_kernel.specs.TypeExpr as kernel
use Rattle.cu_kernel.specs.TypesOf as code
use Rattle.cu_toplevel.proofs.types.arrow.Goals as goal

pub returns : goal.returns
returns c =
    code.type_of-Arrow c.in_ok-from.from c.in_ok-to.to
    ∙ ap₂ kernel.Arrow (ap code.type_of c.in_ok-from.ensures.ok) (ap code.type_of c.in_ok-to.ensures.ok)
