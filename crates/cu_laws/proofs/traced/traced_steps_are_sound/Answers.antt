use Rattle.std.proofs.Common.{◌-◌}
use Rattle.cu_laws.proofs.TracedSound.{level_backward, reached_backward, run_backward, step_backward}
use Rattle.cu_laws.proofs.traced.traced_steps_are_sound.Goals as goal

pub returns : goal.returns
returns c = record {
  next = λ program limits levels k claims before state states later well traced same m good.
      step_backward program limits levels k well claims before state states later traced same m good;
  run = λ program limits levels k steps claims before state states later well are traced same m good.
      run_backward program limits levels k well are (steps - 1) claims before state states later traced same m good;
  reached = λ program limits levels k steps claims state later well are traced good.
      reached_backward program limits levels k well are (steps - 1) claims state later traced good;
  level = λ program limits levels k depth claims start state later well are traced m good.
      level_backward program limits levels well are k depth claims start state later traced m good;
}
