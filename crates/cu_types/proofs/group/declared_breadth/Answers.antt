use Rattle.std.proofs.Common.{◌≡◌, Option, sym, ap, ◌∙◌, arith}
use Rattle.cu_kernel.specs.TypeExpr.{TypeExpr}
use Rattle.cu_types.specs.Equations.{declared_breadth}
use Rattle.cu_types.proofs.group.declared_breadth.Goals as goal

pub returns-in-Ok : goal.returns-in-Ok
returns-in-Ok c =
    let same : c.in-Ok.count ≡ c.in_ok-found-in-Some.found = omega (arith, c.in-Ok.ensures) in
    same ∙ c.in_ok-found-in-Some.ensures ∙ sym (ap (λ (d : Option TypeExpr). declared_breadth d) c.in-Some.is)

pub returns-in-None : goal.returns-in-None
returns-in-None c = sym (ap (λ (d : Option TypeExpr). declared_breadth d) c.in-None.is)
