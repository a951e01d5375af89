use Rattle.cu_kernel.specs.TypeExpr as type
use Rattle.cu_types.proofs.AskingLemmas.{asked_both}
use Rattle.cu_types.specs.BuiltInTypes.{literal_type}
use Rattle.cu_types.proofs.asking.Asking.literal.Goals as goal

pub returns : goal.returns
returns c =
    asked_both c.args.self.now c.literal_type.new.self c.variable.new.self c.ask.new.self (literal_type c.args.literal) (type.Variable c.args.t)
    c.in_ok-left.left c.in_ok-right.right c.in_ok-left.ensures c.in_ok-right.ensures c.in_ok-ask.ensures.asks
