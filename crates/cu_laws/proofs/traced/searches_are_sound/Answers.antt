use Rattle.cu_machine.specs.State.{Branch, Idle, Running}
use Rattle.cu_laws.proofs.TracedSound.{ended_sound, step_backward}
use Rattle.cu_laws.proofs.traced.searches_are_sound.Goals as goal

pub returns : goal.returns
returns c = record {
  begins = λ program limits levels k claims graph after root top goals others id found inner states later well traced same m good.
      step_backward program limits levels k well claims (Branch graph root goals Idle) (Branch after top others (Running id found inner)) states later traced same m good;
  runs = λ program limits levels k claims graph root goals id found inner state states later well traced same m good.
      step_backward program limits levels k well claims (Branch graph root goals (Running id found inner)) state states later traced same m good;
  ended = λ program limits levels k claims graph root goals id f args found later traced is good.
      let end = ended_sound program limits levels k claims graph root goals id f args found later traced is good in
      (end.0, end.1, end.2.0, end.2.1, end.2.2);
}
