use Rattle.cu_laws.proofs.Readings.{goals_total, valid_reading}
use Rattle.cu_laws.proofs.soundness.readings_are_good.Goals as goal

pub returns : goal.returns
returns c = record { good = valid_reading; total = goals_total }
