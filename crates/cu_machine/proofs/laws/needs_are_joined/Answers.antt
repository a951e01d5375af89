use Rattle.cu_machine.proofs.FirstLaws.{before_again, before_assoc, before_itself}
use Rattle.cu_machine.proofs.laws.needs_are_joined.Goals as goal

pub returns : goal.returns
returns c = record { associative = before_assoc; idempotent = before_itself; again = before_again }
