-- The name of a module is that of its token.
use Rattle.cu_syntax.proofs.OwnerLemmas.{module_name_of_token}
use Rattle.cu_syntax.proofs.subtree.Subtree.module_name.Goals as goal

pub returns-clause-owned : goal.returns-clause-owned
returns-clause-owned c = λ owner names whole.
    module_name_of_token owner names c.name_token-token.result.now c.spelling.result (c.name_token-token.ensures.owned owner names whole) (c.spelling.ensures.owned names)
