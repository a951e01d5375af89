-- The expression that is there.
use Rattle.cu_syntax.proofs.OwnerLemmas.{same_part}
use Rattle.cu_syntax.proofs.expression_forms.maybe.Goals as goal

pub returns-clause-owned : goal.returns-clause-owned
returns-clause-owned c = λ owner names whole. same_part owner names c.in_ok-expression.expression c.new.result.tree c.new.ensures (c.in_ok-expression.ensures.owned owner names whole)
