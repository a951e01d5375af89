use Rattle.cu_translation.proofs.FirstFault.{is_first, is_listed, is_none}
use Rattle.cu_translation.proofs.laws.the_first_fault_is_told.Goals as goal

pub returns-clause-listed : goal.returns-clause-listed
returns-clause-listed c = is_listed

pub returns-clause-first : goal.returns-clause-first
returns-clause-first c = is_first

pub returns-clause-none : goal.returns-clause-none
returns-clause-none c = is_none
