-- The place of the minus that is there.
use Rattle.cu_syntax.proofs.expression_forms.minus.Goals as goal

pub returns-clause-owned : goal.returns-clause-owned
returns-clause-owned c = λ owner names whole. c.place.ensures.owned owner names (c.in_ok-minus.ensures.owned owner names whole)
