use Rattle.std.proofs.Common.{◌++◌, ap}
use Rattle.cu_uses.specs.Inside.Tops.{constructor_names}
use Rattle.cu_uses.proofs.TopLemmas.{constructor_pushed, constructors_end}
use Rattle.cu_uses.proofs.top_level.constructor_names.Goals as goal

pub loop-constructor-init : goal.loop-constructor-init
loop-constructor-init c = ap (λ ys. ys ++ constructor_names c.args.constructors.now) c.new-found.ensures.items

pub loop-constructor-preserved : goal.loop-constructor-preserved
loop-constructor-preserved c =
    constructor_pushed c.args.constructors.now c.loop-constructor.constructor-index c.constructor-item.result c.loop-constructor.found.items c.push.new.self.items (constructor_names c.args.constructors.now)
    c.constructor-item.is c.loop-constructor-test.true c.in_ok-push.ensures.items c.loop-constructor.invariant

pub returns : goal.returns
returns c = constructors_end c.args.constructors.now c.loop-constructor.constructor-index c.loop-constructor.found.items (constructor_names c.args.constructors.now) c.loop-constructor-test.false c.loop-constructor.invariant
