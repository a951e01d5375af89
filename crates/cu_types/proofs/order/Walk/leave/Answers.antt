use Rattle.std.proofs.Common.{ℕ, ◌<◌, map, ap, sym, subst}
use Rattle.cu_types.proofs.Joins.{place_within, shape_read_in}
use Rattle.cu_types.proofs.Steps.{steps_left}
use Rattle.cu_types.proofs.order.Walk.leave.Goals as goal
use Rattle.cu_types.specs.Table.{shape_of}
use Rattle.cu_types.specs.declared.order.Task.{Task}
use Rattle.std.specs.declared.alloc.Global.{Global}
use Rattle.std.specs.declared.vec.Vec.{Vec}

pub place-requires-clause-arguments : goal.place-requires-clause-arguments
place-requires-clause-arguments c = λ k a e.
    subst (λ (n : ℕ). a < n) (sym c.requires.classes.sized)
    (place_within (map shape_of c.args.nodes.now) c.args.class (shape_of c.index-nodes-class.result) k a c.requires.table
    (shape_read_in c.args.nodes.now c.args.class c.index-nodes-class.result c.requires.walk.linked.0 c.index-nodes-class.is) e)

pub returns : goal.returns
returns c =
    steps_left (map shape_of c.args.nodes.now) c.args.classes.now c.args.self.now.states.items c.args.self.now.solved.items
    (map shape_of c.place.new.self.solved.items) c.args.class (shape_of c.index-nodes-class.result) c.args.self.now.tasks.items
    c.place.new.self.states.items c.place.new.self.tasks.items c.requires.table c.requires.classes
    (shape_read_in c.args.nodes.now c.args.class c.index-nodes-class.result c.requires.walk.linked.0 c.index-nodes-class.is)
    c.requires.walk c.in_ok-place.ensures.states c.in_ok-place.ensures.solved
    (ap (λ (v : Vec Task Global). v.items) c.in_ok-place.ensures.tasks)
