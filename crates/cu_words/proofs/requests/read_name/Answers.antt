use Rattle.std.proofs.Common.{IsTrue}
use Rattle.cu_words.specs.Names as names
use Rattle.cu_words.proofs.RequestLemmas.{for_want, name_utf8}
use Rattle.cu_words.proofs.requests.read_name.Goals as goal

pub returns-in_err-name-clause-refused : goal.returns-in_err-name-clause-refused
returns-in_err-name-clause-refused c =
    for_want c.from_residual.result (IsTrue (names.is_module_name c.args.text.now) → ⊥)
    (λ is. c.in_err-name.ensures.refused (name_utf8 c.args.text.now is))
