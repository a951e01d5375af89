-- The place is that of the first token.
use Rattle.cu_syntax.proofs.subtree.Subtree.place.Goals as goal

pub returns-clause-owned : goal.returns-clause-owned
returns-clause-owned c = λ owner names whole. (c.first_token.ensures.owned owner names whole).owned
