use Rattle.cu_laws.proofs.SetRow.{delivered_sound}
use Rattle.cu_laws.proofs.soundness.deliveries_are_sound.Goals as goal

pub returns : goal.returns
returns c = delivered_sound
