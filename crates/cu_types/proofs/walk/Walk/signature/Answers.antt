use Rattle.std.proofs.Common.{OnOk, Option, sym, subst}
use Rattle.cu_kernel.specs.TypeExpr.{TypeExpr}
use Rattle.cu_types.proofs.RuleLemmas.{walks_none}
use Rattle.cu_types.specs.Inside.Members.{declared_asks}
use Rattle.cu_types.specs.Inside.Walking.{Walks}
use Rattle.cu_types.proofs.walk.Walk.signature.Goals as goal

pub returns-in-Some : goal.returns-in-Some
returns-in-Some c =
    subst (λ (d : Option TypeExpr). OnOk c.declared.result (Walks c.args.self.now c.declared.new.self (declared_asks c.args.m.now d)))
    (sym c.in-Some.is) c.declared.ensures

pub returns-in-None : goal.returns-in-None
returns-in-None c =
    subst (λ (d : Option TypeExpr). Walks c.args.self.now c.args.self.now (declared_asks c.args.m.now d)) (sym c.in-None.is)
    (walks_none c.args.self.now c.requires)
