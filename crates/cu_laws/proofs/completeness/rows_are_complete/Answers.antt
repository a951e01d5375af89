use Rattle.cu_laws.proofs.CompleteRows.{complete_rows}
use Rattle.cu_laws.proofs.completeness.rows_are_complete.Goals as goal

pub returns : goal.returns
returns c = complete_rows
