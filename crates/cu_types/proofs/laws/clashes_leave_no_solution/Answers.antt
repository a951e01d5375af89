use Rattle.cu_types.proofs.Exclusions.{clash_unsolved}
use Rattle.cu_types.proofs.laws.clashes_leave_no_solution.Goals as goal

pub returns : goal.returns
returns c = λ kernel f clash is. clash_unsolved kernel f clash is
