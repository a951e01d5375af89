use Rattle.cu_machine.proofs.Levels.{found_built}
use Rattle.cu_machine.proofs.laws.finds_are_of_the_program.Goals as goal

pub returns : goal.returns
returns c = record { arguments = λ program limits f arguments values found. found.built; values = found_built }
