use Rattle.cu_types.proofs.AskingLemmas.{asks_unknown}
use Rattle.cu_types.proofs.asking.Asking.unknown.Goals as goal

pub returns : goal.returns
returns c = λ t at_whole.
    asks_unknown c.args.self.now c.take.new.self c.variable.new.self c.ask.new.self t c.in_ok-next.next c.in_ok-left.left c.args.whole
    c.in_ok-next.ensures.first c.take.ensures.same c.in_ok-next.ensures.asks c.in_ok-left.ensures at_whole c.in_ok-ask.ensures.asks
