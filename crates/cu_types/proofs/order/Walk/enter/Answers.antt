use Rattle.std.proofs.Common.{map, ap}
use Rattle.cu_types.proofs.Joins.{shape_read_in}
use Rattle.cu_types.proofs.Steps.{steps_opened, steps_placed}
use Rattle.cu_types.proofs.order.Walk.enter.Goals as goal
use Rattle.cu_types.specs.Inside.Ordering.{class_of}
use Rattle.cu_types.specs.Table.{shape_of}
use Rattle.cu_types.specs.declared.node.Node.{Node}
use Rattle.std.specs.declared.alloc.Global.{Global}
use Rattle.std.specs.declared.vec.Vec.{Vec}

pub returns-in_ok-open-in-Unseen : goal.returns-in_ok-open-in-Unseen
returns-in_ok-open-in-Unseen c =
    steps_opened (map shape_of c.args.nodes.now) c.args.classes.now c.args.self.now.states.items (map shape_of c.args.self.now.solved.items)
    (map shape_of c.open.new.self.solved.items) c.args.place (shape_of c.index-nodes-class.result) c.index.result.now
    c.args.self.now.tasks.items c.open.new.self.states.items c.open.new.self.tasks.items
    c.requires.table c.requires.classes
    (shape_read_in c.args.nodes.now (class_of c.args.classes.now c.args.place) c.index-nodes-class.result
    (c.requires.classes.within c.args.place c.requires.walk.linked.0) c.index-nodes-class.is)
    c.index.ensures c.in-Unseen.is c.requires.walk c.in_ok-open-in-Unseen.ensures.states
    (ap (λ (v : Vec Node Global). map shape_of v.items) c.in_ok-open-in-Unseen.ensures.solved) c.in_ok-open-in-Unseen.ensures.tasks

pub returns-in-Placed : goal.returns-in-Placed
returns-in-Placed c =
    steps_placed (map shape_of c.args.nodes.now) c.args.classes.now c.args.self.now.states.items (map shape_of c.args.self.now.solved.items)
    c.args.place c.in-Placed.field-0 c.index.result.now c.args.self.now.tasks.items c.requires.classes c.index.ensures c.in-Placed.is
    c.requires.walk
