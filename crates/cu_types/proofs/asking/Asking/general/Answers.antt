use Rattle.std.proofs.Common.{◌≡◌, ap, ◌∙◌, arith}
use Rattle.cu_types.proofs.AskingLemmas.{asks_general}
use Rattle.cu_types.specs.BuiltInTypes.{arrows, variables_from}
use Rattle.cu_types.specs.Equations.{breadth}
use Rattle.cu_types.proofs.asking.Asking.general.Goals as goal

pub returns : goal.returns
returns c = λ t at_whole.
    let same : c.in-Ok.taken ≡ c.in_ok-found.found = omega (arith, c.in-Ok.ensures) in
    let count : c.in-Ok.taken ≡ breadth c.args.shared.now = same ∙ c.in_ok-found.ensures in
    asks_general c.args.self.now c.take.new.self c.instance.new.self c.arrows_to.new.self c.ask.new.self
    (variables_from c.args.variables.first c.args.variables.count) c.args.shared.now t _ c.in-Ok.taken c.in_ok-next.next c.in_ok-right.right c.in_ok-left.left
    c.args.whole count c.in_ok-next.ensures.first c.take.ensures.same c.in_ok-next.ensures.asks c.in_ok-right.ensures c.in_ok-left.ensures
    (ap (arrows (variables_from c.args.variables.first c.args.variables.count)) c.in_ok-right.ensures.reads.value) at_whole c.in_ok-ask.ensures.asks
