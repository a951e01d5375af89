use Rattle.cu_laws.proofs.TracedSound.{answer_concludes, answer_good, answer_proved}
use Rattle.cu_laws.proofs.traced.answers_of_traced_states_follow.Goals as goal

pub returns : goal.returns
returns c = record {
  read = answer_good;
  concluded = λ program limits levels goals depth state reading well rule are m answers.
      answer_concludes program limits levels well are goals depth state reading rule m answers;
  proved = λ program limits levels goals depth state reading well rule are m answers.
      answer_proved program limits levels well are goals depth state reading rule m answers;
}
