use Rattle.cu_types.proofs.AskingLemmas.{asks_made}
use Rattle.cu_types.proofs.asking.Asking.ask.Goals as goal

pub returns-clause-asks : goal.returns-clause-asks
returns-clause-asks c = λ s t reader l r. asks_made c.args.self.now c.push.new.self c.args.left c.args.right s t c.in_ok-push.ensures.items reader l r
