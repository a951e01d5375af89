use Rattle.cu_machine.proofs.DoneLaws.{done_is_head}
use Rattle.cu_machine.proofs.laws.done_has_a_head.Goals as goal

pub returns : goal.returns
returns c = done_is_head
