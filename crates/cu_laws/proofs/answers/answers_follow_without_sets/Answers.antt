use Rattle.cu_laws.proofs.AnswersFollow.{listed_concludes, listed_proved}
use Rattle.cu_laws.proofs.answers.answers_follow_without_sets.Goals as goal

pub returns : goal.returns
returns c = record { concluded = listed_concludes; proved = listed_proved }
