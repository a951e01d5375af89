-- A name is that of its token.
use Rattle.cu_syntax.proofs.OwnerLemmas.{name_of_token}
use Rattle.cu_syntax.proofs.subtree.Subtree.name.Goals as goal

pub returns-clause-owned : goal.returns-clause-owned
returns-clause-owned c = λ owner names whole.
    name_of_token owner names c.name_token-token.result.now c.spelling-name.result (c.name_token-token.ensures.owned owner names whole) (c.spelling-name.ensures.owned names)
