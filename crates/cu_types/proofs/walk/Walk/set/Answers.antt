use Rattle.std.proofs.Common.{◌≡◌, ◌+◌}
use Rattle.cu_types.proofs.WalkLemmas.{set_walks}
use Rattle.cu_types.specs.Inside.Knowing.{scheme_of}
use Rattle.cu_types.proofs.walk.Walk.set.Goals as goal

pub returns : goal.returns
returns c = λ t at_whole.
    let count : c.in-Some.count ≡ c.arity-arity.result + 1 = c.in-Some.ensures.1 in
    let last : c.in-Some-checked_add.last ≡ c.in_ok-first.first + c.arity-arity.result = c.in-Some-checked_add.ensures.1 in
    set_walks c.args.self.now c.take.new.self c.variable.new.self c.values.new.self c.arrows_to.new.self c.ask.new.self c.arrows_to-2.new.self
    c.scheme.new.self c.args.f (scheme_of c.function-scheme.result) t c.arity-arity.result c.in-Some.count c.in_ok-first.first c.in-Some-checked_add.last
    c.in_ok-right.right c.in_ok-given.given c.in_ok-left.left c.args.whole c.in_ok-own.own c.arity-arity.ensures count last c.in_ok-first.ensures.first
    c.take.ensures.same c.in_ok-first.ensures.asks c.in_ok-right.ensures c.in_ok-given.ensures c.in_ok-left.ensures c.ask.ensures.same
    c.in_ok-ask.ensures.asks c.in_ok-own.ensures c.function-scheme.ensures c.in_ok-scheme.ensures at_whole
