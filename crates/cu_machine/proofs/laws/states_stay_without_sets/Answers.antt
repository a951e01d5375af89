use Rattle.cu_machine.proofs.Starts.{start_without}
use Rattle.cu_machine.proofs.Successors.{next_without}
use Rattle.cu_machine.proofs.laws.states_stay_without_sets.Goals as goal

pub returns : goal.returns
returns c = record { start = start_without; next = next_without }
