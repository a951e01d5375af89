-- A node is given to the innermost one to come.
use Rattle.std.proofs.Common.{◌-◌, vec_len, refl}
use Rattle.cu_step.specs.Inside.Pushing.{given, work_of}
use Rattle.cu_step.proofs.Pushings.{gives_close, gives_last, gives_on}
use Rattle.cu_step.proofs.Reversals.{none_taken}
use Rattle.cu_step.proofs.push.Pushing.give.Goals as goal

pub returns-then-outer-gt1 : goal.returns-then-outer-gt1
returns-then-outer-gt1 g c =
    let outer = c.in-Some.outer in
    gives_on (g.S.Store.content c.loop-outer.store) c.loop-outer.self.ids.items c.push.new.self.items c.loop-outer.id c.loop-outer.self.unfinished.items c.pop.new.self.items
    c.push-then-outer-gt1.new.self.items outer (record { kind = outer.kind; count = outer.count; missing = outer.missing - 1 })
    (given (work_of (g.S.Store.content c.args.store.now) c.args.self.now) c.args.id)
    c.in-Some.ensures.items c.in_ok-push.ensures.items c.if-outer-gt1.true refl c.in_ok-push-2.ensures.items c.loop-outer.invariant

pub loop-outer-preserved : goal.loop-outer-preserved
loop-outer-preserved g c =
    gives_close (g.S.Store.content c.loop-outer.store) (g.S.Store.content c.close.new.store) c.loop-outer.self.ids.items c.push.new.self.items c.close.new.self.ids.items
    c.loop-outer.id c.in_ok-id.id c.loop-outer.self.unfinished.items c.pop.new.self.items c.close.new.self.unfinished.items c.in-Some.outer
    (given (work_of (g.S.Store.content c.args.store.now) c.args.self.now) c.args.id)
    c.in-Some.ensures.items c.in_ok-push.ensures.items c.if-outer-gt1.false c.in_ok-id.ensures.place c.in_ok-id.ensures.graph c.in_ok-id.ensures.ids c.in_ok-id.ensures.unfinished
    c.loop-outer.invariant

pub returns : goal.returns
returns g c =
    gives_last (g.S.Store.content c.loop-outer.store) c.loop-outer.self.ids.items c.push-2.new.self.items c.loop-outer.id c.loop-outer.self.unfinished.items c.pop.new.self.items
    (given (work_of (g.S.Store.content c.args.store.now) c.args.self.now) c.args.id)
    (none_taken c.loop-outer.self.unfinished.items c.pop.new.self.items (vec_len c.loop-outer.self.unfinished) c.in_default.ensures.cases.0 c.in_default.ensures.rest
    c.in_default.ensures.items)
    c.in_default.ensures.items c.in_ok-push-3.ensures.items c.loop-outer.invariant
