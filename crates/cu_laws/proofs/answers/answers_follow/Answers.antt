use Rattle.cu_laws.proofs.LevelStates.{proved_at_level}
use Rattle.cu_laws.proofs.SearchAnswers.{listed_by_finds, listed_proved_by_finds}
use Rattle.cu_laws.proofs.answers.answers_follow.Goals as goal

pub returns : goal.returns
returns c = record { concluded = listed_by_finds; proved = listed_proved_by_finds; at_levels = proved_at_level }
