use Rattle.cu_lex.specs.Inside.Scanning.{left, position}
use Rattle.cu_lex.proofs.CursorLemmas.{first-at}
use Rattle.cu_lex.proofs.cursor.Cursor.place.Goals as goal

pub returns-clause-at : goal.returns-clause-at
unfolding left
returns-clause-at c = λ first rest is. first-at (position c.args.self) _ first rest is
