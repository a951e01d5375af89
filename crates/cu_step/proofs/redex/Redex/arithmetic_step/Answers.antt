-- A division by a number that isn't 0.
use Rattle.std.proofs.Common.{◌≡◌, ℤ, ap, ap₂, of_z, to_z-of_z, ◌∙◌}
use Rattle.std.specs.Int.{w128}
use Rattle.cu_int.specs.Integers.{checked, floor_quotient}
use Rattle.cu_step.specs.Inside.Numbers.{result_step}
use Rattle.cu_step.proofs.Builds.{if_ok}
use Rattle.cu_step.proofs.Divisions.{divided}
use Rattle.cu_step.proofs.redex.Redex.arithmetic_step.Goals as goal

pub returns-else-n-eq0 : goal.returns-else-n-eq0
returns-else-n-eq0 g c =
    let graph = g.S.Store.content c.args.self.store in
    let quotient : c.floor_quotient.result ≡ checked (floor_quotient c.args.m c.args.n) =
    c.floor_quotient.ensures ∙ ap₂ (λ m n. checked (floor_quotient m n)) (to_z-of_z c.ranges.m) (to_z-of_z c.ranges.n) in
    if_ok c.result_step-in-Div.result _ _
    (λ moved is. is ∙ ap₂ (λ (m n : ℤ). result_step graph c.args.self.id c.args.operation m n c.floor_quotient.result) (to_z-of_z c.ranges.m) (to_z-of_z c.ranges.n)
    ∙ divided c.args.special.now graph c.args.self.id c.args.operation c.args.m c.args.n c.floor_quotient.result c.in-Div.is
    (λ same. c.if-n-eq0.false (ap (of_z w128) same)) quotient)
    c.result_step-in-Div.ensures
