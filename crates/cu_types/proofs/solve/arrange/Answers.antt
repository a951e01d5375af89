use Rattle.std.proofs.Common.{List, map, reverse, sym, subst}
use Rattle.cu_types.proofs.Solving.{walk_started}
use Rattle.cu_types.proofs.solve.arrange.Goals as goal
use Rattle.cu_types.specs.Inside.Ordering.{IsWalk}
use Rattle.cu_types.specs.Table.{shape_of}
use Rattle.cu_types.specs.declared.node.Node.{Node}

pub run-requires-clause-walk : goal.run-requires-clause-walk
run-requires-clause-walk c =
    subst (λ (ns : List Node). IsWalk (map shape_of ns) c.args.classes.now c.in_ok-walk.walk.states.items
    (map shape_of c.in_ok-walk.walk.solved.items) (reverse c.in_ok-walk.walk.tasks.items)) (sym c.as_slice.ensures.value)
    (walk_started (map shape_of c.args.nodes.items) c.args.classes.now c.in_ok-walk.walk.states.items c.in_ok-walk.walk.solved.items
    c.in_ok-walk.walk.tasks.items c.requires.classes c.requires.fixed c.in_ok-walk.ensures.states c.in_ok-walk.ensures.tasks
    c.in_ok-walk.ensures.solved)
