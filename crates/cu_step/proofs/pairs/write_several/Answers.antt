-- The nodes over the pairs come first, and then what joins them.
use Rattle.std.proofs.Common.{◌-◌, ℕ, ap, arith}
use Rattle.cu_step.proofs.Builds.{on_ok}
use Rattle.cu_step.proofs.Joints.{many_pairs, pairs_there}
use Rattle.cu_step.proofs.pairs.write_several.Goals as goal

pub overflow_add-first : goal.overflow_add-first
overflow_add-first g c =
    omega (arith, pairs_there c.args.each (g.S.Store.content c.args.store.now) (g.S.Store.content c.push_each.new.store) c.args.pairs.now c.in_ok-push_each.ensures)

pub join-requires-after_bounds : goal.join-requires-after_bounds
join-requires-after_bounds g c κs within =
    omega (arith, pairs_there c.args.each (g.S.Store.content c.args.store.now) (g.S.Store.content c.push_each.new.store) c.args.pairs.now c.in_ok-push_each.ensures)

pub returns : goal.returns
returns g c =
    on_ok c.put.result _ _
    (λ h. many_pairs c.args.each c.args.joint (g.S.Store.content c.args.store.now) (g.S.Store.content c.push_each.new.store)
    (g.S.Store.content c.join.new.store) (g.S.Store.content c.put.new.self) c.args.id c.len-first.result (c.len-last.result - 1) c.in_ok-others.others
    c.args.pairs.now c.requires.pairs c.len-first.ensures c.in_ok-push_each.ensures (ap (λ (n : ℕ). n - 1) c.len-last.ensures)
    c.in_ok-others.ensures.content c.in_ok-others.ensures.place h)
    c.put.ensures.ok
