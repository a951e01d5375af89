-- Both parts are parts of the whole.
use Rattle.cu_syntax.proofs.OwnerLemmas.{same_part}
use Rattle.cu_syntax.proofs.declaration_forms.right.Goals as goal

pub returns-clause-owned : goal.returns-clause-owned
returns-clause-owned c = λ owner names whole. (same_part owner names c.part.result c.new.result.body c.new.ensures.body (c.part.ensures.owned owner names whole), same_part owner names c.part-2.result c.new.result.local c.new.ensures.local (c.part-2.ensures.owned owner names whole))
