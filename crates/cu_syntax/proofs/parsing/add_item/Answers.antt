-- The item that is added is of the module, as those before it.
use Rattle.cu_syntax.specs.Owners.{ItemIsOf}
use Rattle.cu_syntax.proofs.OwnerLemmas.{one_more}
use Rattle.cu_syntax.proofs.PartLemmas.{if_some}
use Rattle.cu_syntax.proofs.parsing.add_item.Goals as goal

pub returns-in_ok-push-in-Some-clause-owned : goal.returns-in_ok-push-in-Some-clause-owned
returns-in_ok-push-in-Some-clause-owned c = λ owner names before found.
    one_more (ItemIsOf owner names) c.args.items.now.items c.push.new.self.items c.in-Some.item c.in_ok-push-in-Some.ensures.items before
    (if_some c.args.found (ItemIsOf owner names) c.in-Some.item c.in-Some.is found)
