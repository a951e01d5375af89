use Rattle.std.proofs.Common.{◌-◌}
use Rattle.cu_machine.proofs.Starts.{start_valid}
use Rattle.cu_machine.proofs.Levels.{inner_valid, level_valid}
use Rattle.cu_machine.proofs.Searches.{follows_valid, reached_valid, run_valid}
use Rattle.cu_machine.proofs.laws.states_stay_valid.Goals as goal

pub returns : goal.returns
returns c = record {
  start = start_valid;
  next = λ program limits before state states well. follows_valid program limits well before state states;
  run = λ program limits steps before state states well. run_valid program limits well (steps - 1) before state states;
  reached = λ program limits steps state well. reached_valid program limits well (steps - 1) state;
  level = level_valid;
  step_level = inner_valid;
}
