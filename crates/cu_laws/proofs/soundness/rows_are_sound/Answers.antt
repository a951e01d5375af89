use Rattle.cu_laws.proofs.AllRows.{sound_row}
use Rattle.cu_laws.proofs.soundness.rows_are_sound.Goals as goal

pub returns : goal.returns
returns c = sound_row
