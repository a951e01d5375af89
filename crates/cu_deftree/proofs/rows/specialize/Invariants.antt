use Rattle.std.proofs.Common.{◌≡◌, ◌++◌, drop}
use Rattle.cu_deftree.specs.Inside.RowsOf.{all_rows, keeps}
use Rattle.cu_deftree.specs.Rows.{specialize}
use Rattle.cu_deftree.proofs.rows.specialize.Given as goal

abbrev pub invariant-loop-row : goal.invariant-loop-row
invariant-loop-row l =
    all_rows l.some.items ++ specialize l.position l.arguments (keeps l.keep) (all_rows (drop l.row-index l.rows))
    ≡ specialize l.position l.arguments (keeps l.keep) (all_rows l.rows)
