use Rattle.std.proofs.Common.{ap}
use Rattle.cu_kernel.specs.TypeExpr as type
use Rattle.cu_types.proofs.AskingLemmas.{adds_then, asked_both}
use Rattle.cu_types.proofs.asking.Asking.function.Goals as goal

pub returns : goal.returns
returns c =
    asked_both c.args.self.now c.taking_variable.new.self c.variable-2.new.self c.ask.new.self
    (type.Arrow (type.Variable c.args.x) (type.Variable c.args.y)) (type.Variable c.args.whole) c.in_ok-arrow.arrow c.in_ok-place.place
    (adds_then c.args.self.now c.variable.new.self c.taking_variable.new.self (type.Variable c.args.y) _ _ c.in_ok-right.right c.in_ok-arrow.arrow
    c.in_ok-right.ensures (ap (type.Arrow (type.Variable c.args.x)) c.in_ok-right.ensures.reads.value) c.in_ok-arrow.ensures)
    c.in_ok-place.ensures c.in_ok-ask.ensures.asks
