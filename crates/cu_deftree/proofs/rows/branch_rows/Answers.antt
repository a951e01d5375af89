use Rattle.std.proofs.Common.{◌≡◌, List, subst}
use Rattle.std.specs.Prelude.{IfOk}
use Rattle.cu_deftree.specs.Inside.RowsOf.{all_rows}
use Rattle.cu_deftree.specs.Rows.{Row}
use Rattle.cu_deftree.proofs.GroupSteps.{branch_without}
use Rattle.cu_deftree.proofs.rows.branch_rows.Goals as goal

pub returns : goal.returns
returns c =
    subst (λ (xs : List Row). IfOk c.specialized_at.result (λ some. all_rows some.items ≡ xs))
    (branch_without c.args.candidates.now.has_variables c.args.position c.args.choice c.args.arguments.now c.args.candidates.now.indices.now (all_rows c.args.candidates.now.rows.now)
    c.if-has_variables.false (c.requires c.if-has_variables.false)) c.specialized_at.ensures
