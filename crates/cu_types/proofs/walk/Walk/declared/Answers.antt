use Rattle.std.proofs.Common.{◌≡◌, ◌+◌}
use Rattle.cu_types.proofs.RuleLemmas.{declared_walks}
use Rattle.cu_types.proofs.walk.Walk.declared.Goals as goal

pub returns : goal.returns
returns c =
    let own : c.in-Some.own ≡ c.in_ok-right.right + 1 = c.in-Some.ensures.1 in
    let first : c.in-Some-checked_add.first ≡ c.args.m.now.first + c.min-skipped.result = c.in-Some-checked_add.ensures.1 in
    declared_walks c.args.self.now c.variable.new.self c.arrows_to.new.self c.instance.new.self c.ask.new.self c.args.m.now.first
    c.args.m.now.arity c.args.m.now.captured c.in_ok-right.right c.in-Some.own c.min-skipped.result c.in-Some-checked_add.first c.in_ok-place.place
    c.in_ok-left.left c.in_ok-made.made c.args.declared.now c.in_ok-right.ensures own c.min-skipped.ensures first c.in_ok-place.ensures
    c.in_ok-left.ensures c.in_ok-made.ensures c.in_ok-ask.ensures.asks
