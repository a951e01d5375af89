use Rattle.cu_kernel.specs.TypeExpr as type
use Rattle.cu_types.proofs.AskingLemmas.{asked_both}
use Rattle.cu_types.proofs.asking.Asking.same.Goals as goal

pub returns : goal.returns
returns c =
    asked_both c.args.self.now c.variable.new.self c.variable-2.new.self c.ask.new.self (type.Variable c.args.x) (type.Variable c.args.y)
    c.in_ok-left.left c.in_ok-right.right c.in_ok-left.ensures c.in_ok-right.ensures c.in_ok-ask.ensures.asks
