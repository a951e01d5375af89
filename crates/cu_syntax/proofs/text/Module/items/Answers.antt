-- The items are those of the module.
use Rattle.std.proofs.Common.{ap}
use Rattle.cu_syntax.specs.Answer.{items_meaning}
use Rattle.cu_syntax.specs.Owners.{ItemIsOf}
use Rattle.cu_syntax.proofs.ViewLemmas.{all_left}
use Rattle.cu_syntax.proofs.text.Module.items.Goals as goal

pub returns-clause-meaning : goal.returns-clause-meaning
returns-clause-meaning c = λ names. ap (items_meaning names) c.as_slice.ensures.value

pub returns-clause-owned : goal.returns-clause-owned
returns-clause-owned c = λ owner names whole. all_left (ItemIsOf owner names) c.as_slice.result.now c.args.self.now.items.items c.as_slice.ensures.value whole.1
