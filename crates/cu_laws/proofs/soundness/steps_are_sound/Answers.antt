use Rattle.cu_laws.proofs.Follows.{idle_from}
use Rattle.cu_laws.proofs.soundness.steps_are_sound.Goals as goal

pub returns : goal.returns
returns c = λ program claims limits graph root goals states state later well valid is m good.
    (idle_from program claims limits well graph root goals states state valid is m).backward later good
