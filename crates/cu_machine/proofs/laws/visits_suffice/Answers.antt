use Rattle.cu_machine.proofs.Tables.{free_later, head_later, need_later, occurs_later, spelled_later}
use Rattle.cu_machine.proofs.laws.visits_suffice.Goals as goal

pub returns : goal.returns
returns c = record { head = head_later; need = need_later; free = free_later; spelled = spelled_later; occurs = occurs_later }
