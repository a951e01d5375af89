-- The header is that of the module.
use Rattle.std.proofs.Common.{ap}
use Rattle.std.specs.Option.{option_map, option_copied}
use Rattle.cu_syntax.specs.Answer.{header_meaning}
use Rattle.cu_syntax.specs.Owners.{HeaderIsOf}
use Rattle.cu_syntax.proofs.OwnerLemmas.{same_found}
use Rattle.cu_syntax.proofs.text.Module.header.Goals as goal

pub returns-clause-meaning : goal.returns-clause-meaning
returns-clause-meaning c = λ names. ap (option_map (header_meaning names)) c.as_ref.ensures.value

pub returns-clause-owned : goal.returns-clause-owned
returns-clause-owned c = λ owner names whole. same_found (HeaderIsOf owner names) (option_copied c.as_ref.result) c.args.self.now.header c.as_ref.ensures.value whole.0
