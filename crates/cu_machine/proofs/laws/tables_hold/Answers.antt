use Rattle.cu_machine.proofs.Tables.{free_table, head_table, need_table, occurs_table, spelled_table}
use Rattle.cu_machine.proofs.laws.tables_hold.Goals as goal

pub returns : goal.returns
returns c = record { head = head_table; need = need_table; free = free_table; spelled = spelled_table; occurs = occurs_table }
