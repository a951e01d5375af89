use Rattle.cu_types.proofs.RuleLemmas.{external_walks}
use Rattle.cu_types.proofs.walk.Walk.external.Goals as goal

pub returns : goal.returns
returns c =
    external_walks c.args.self.now c.variable.new.self c.arrows_to.new.self c.scheme.new.self c.args.self.now.signing.program.now
    c.args.m.now.first c.args.m.now.arity c.in_ok-right.right c.in_ok-place.place c.in_ok-whole.whole c.in_ok-shared.shared c.args.operation
    c.in_ok-right.ensures c.in_ok-shared.ensures c.in_ok-place.ensures c.in_ok-whole.ensures c.in_ok-scheme.ensures
