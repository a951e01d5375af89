use Rattle.std.proofs.Common.{refl, ◌-◌}
use Rattle.cu_machine.specs.Run.{run_on}
use Rattle.cu_machine.proofs.Runs.{run_alone, run_otherwise, run_reaches}
use Rattle.cu_machine.proofs.laws.runs_are_steps.Goals as goal

pub returns : goal.returns
unfolding run_on
returns c = record {
  one = λ program limits state. refl;
  alone = run_alone;
  otherwise = λ program limits steps. run_otherwise (steps - 1) program limits;
  reaches = λ program limits steps. run_reaches (steps - 1) program limits;
}
