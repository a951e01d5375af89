-- The place is that of the whole tree.
use Rattle.cu_syntax.proofs.text.Header.place.Goals as goal

pub returns-clause-owned : goal.returns-clause-owned
returns-clause-owned c = λ owner names whole. c.place.ensures.owned owner names (c.root.ensures.owned owner names whole)
