-- How much there is to lower in a piece of work.
use Rattle.std.specs.Prelude.{ℕ}
use Rattle.cu_deftree.specs.Inside.RowsOf.{all_rows}
use Rattle.cu_deftree.specs.declared.tasks.Task.{Task}
use Rattle.cu_deftree.specs.declared.tasks.Task.TheVariants as task
use Rattle.cu_deftree.proofs.Weights.{rows_weight, term_weight}
use Rattle.cu_kernel.specs.TermsOf.{term_of}

abbrev pub task_weight : Task → ℕ
task_weight (task.Term scope t) = term_weight (term_of t.now)
task_weight (task.Rows m matrix) = rows_weight (all_rows matrix.rows.now)
