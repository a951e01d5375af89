use Rattle.cu_laws.proofs.Built.{written_worth}
use Rattle.cu_laws.proofs.Extended.{written_has}
use Rattle.cu_laws.proofs.soundness.written_expressions_are_worth_their_terms.Goals as goal

pub returns : goal.returns
returns c = record { given = written_worth; converse = written_has }
