use Rattle.std.proofs.Common.{◌≡◌, sym, ap, ◌∙◌}
use Rattle.cu_types.proofs.Joins.{shape_read}
use Rattle.cu_types.proofs.Unfolding.{pushed_shapes, same_some}
use Rattle.cu_types.proofs.cycle.wrap.Goals as goal
use Rattle.cu_types.specs.Inside.Cycles.{wrapped}
use Rattle.cu_types.specs.Table.{shape_of}

pub returns-clause-pushed : goal.returns-clause-pushed
returns-clause-pushed c = λ s at_user.
    let same : shape_of c.index.result.now ≡ s =
    same_some (shape_of c.index.result.now) s
    (sym (shape_read c.args.nodes.now.items c.args.user c.index.result.now c.requires.user c.index.ensures) ∙ at_user) in
    pushed_shapes c.args.nodes.now.items c.push.new.self.items c.in_ok-made.made
    (wrapped c.args.classes.now c.args.inner.class c.args.inner.place s) c.in_ok-push.ensures.items
    (c.in_ok-made.ensures ∙ ap (wrapped c.args.classes.now c.args.inner.class c.args.inner.place) same)
