-- The branches are those of a case distinction of the code.
use Rattle.std.proofs.Common.{ap, map, refl, ◌∙◌}
use Rattle.cu_flat.specs.Meaning.{branch_meaning}
use Rattle.cu_flat.specs.declared.expr.Expr.TheVariants as expr
use Rattle.cu_calculus.specs.Code.{kept_by}
use Rattle.cu_calculus.specs.declared.ExprId.{ExprId}
use Rattle.cu_step.specs.Inside.Building.{branches_nest}
use Rattle.cu_step.proofs.Nesting.{found_nests}
use Rattle.cu_step.proofs.redex.Redex.case_step.Goals as goal

pub scrutinee_step-requires-clause-nest : goal.scrutinee_step-requires-clause-nest
scrutinee_step-requires-clause-nest g c κs within =
    let program = c.args.program.now in
    let e : ExprId = record { 0 = c.args.e } in
    ap (λ branches. branches_nest program (map branch_meaning branches)) c.as_slice.ensures.value
    ∙ found_nests program e (kept_by program e) c.find.result c.in-Some-Case.field-0 (expr.Case c.in-Some-Case.field-0-0 c.in-Some-Case.field-0-1 c.in-Some-Case.branches)
    c.in-Some-Case.field-0-0 c.in-Some-Case.field-0-1 (map branch_meaning c.in-Some-Case.branches.items) c.requires.code c.find.ensures c.in-Some-Case.is
    c.in-Some-Case.field-0-is refl
