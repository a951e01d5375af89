use Rattle.cu_flattext.proofs.ScopeLemmas.{declared_left}
use Rattle.cu_flattext.proofs.types.Types.declared.Goals as goal

pub returns : goal.returns
returns c =
    declared_left c.enter.new.self.wording c.none-types.result.wording c.args.wording c.args.scope c.none-types.result c.enter.new.self c.in_ok-place.place
    c.push.new.self.items c.args.t c.none-types.ensures.tasks c.none-types.ensures.scopes c.in_ok-place.ensures.wording c.none-types.ensures.wording
    c.in_ok-place.ensures.enters c.in_ok-push.ensures.items
