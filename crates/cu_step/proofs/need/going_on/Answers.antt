-- No walk is kept, or it asks for another truth: the walk begins at the root.
use Rattle.cu_step.proofs.KeptLooks.{from_root}
use Rattle.cu_step.proofs.need.going_on.Goals as goal

pub returns : goal.returns
returns c = λ graph below kept. (below, from_root c.args.truth graph c.args.root c.new.result.items c.new.ensures.items)
