-- A literal at its place.
use Rattle.cu_syntax.proofs.pattern_forms.literal.Goals as goal

pub returns-clause-owned : goal.returns-clause-owned
returns-clause-owned c = λ owner names whole. (c.place.ensures.owned owner names whole, c.literal.ensures.natural owner names whole)
