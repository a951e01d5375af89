use Rattle.std.proofs.Common.{map, reverse}
use Rattle.cu_types.proofs.Unfolding.{built_round, unfolding_popped, unfolding_starts, user_arguments, wrapped_last, wrapped_next}
use Rattle.cu_types.proofs.cycle.unfold.Goals as goal
use Rattle.cu_types.specs.Inside.Cycles.{IsUnfolding}
use Rattle.cu_types.specs.Table.{shape_of}
use Rattle.cu_types.specs.declared.order.Task.TheVariants as task
use Rattle.std.proofs.Common.{◌∷◌}

pub loop-task-init : goal.loop-task-init
loop-task-init c =
    unfolding_starts (map shape_of c.args.nodes.now.items) c.args.classes.now c.args.first (reverse c.args.tasks.now.items) c.requires.table
    c.requires.classes c.requires.cyclic

pub wrap-requires-clause-arguments : goal.wrap-requires-clause-arguments
wrap-requires-clause-arguments c = λ s k a at_user e.
    let ss = map shape_of c.args.nodes.now.items in
    let u : IsUnfolding ss c.args.classes.now c.args.first (map shape_of c.loop-task.nodes.items) (task.Leave c.in-Leave.user ∷ reverse c.pop.new.self.items)
    c.loop-task.inner.class c.loop-task.inner.place =
    unfolding_popped ss c.args.classes.now c.args.first (map shape_of c.loop-task.nodes.items) c.loop-task.tasks.items c.pop.new.self.items
    c.in-Some.task c.loop-task.inner.class c.loop-task.inner.place c.in-Leave.user c.in-Some.ensures.items c.in-Leave.is c.loop-task.invariant in
    user_arguments ss c.args.classes.now c.args.first (map shape_of c.loop-task.nodes.items) (reverse c.pop.new.self.items) c.loop-task.inner.class
    c.loop-task.inner.place c.in-Leave.user k a s c.requires.table c.requires.classes u at_user e

pub returns-then-user-class : goal.returns-then-user-class
returns-then-user-class c =
    let ss = map shape_of c.args.nodes.now.items in
    let u : IsUnfolding ss c.args.classes.now c.args.first (map shape_of c.loop-task.nodes.items) (task.Leave c.in-Leave.user ∷ reverse c.pop.new.self.items)
    c.loop-task.inner.class c.loop-task.inner.place =
    unfolding_popped ss c.args.classes.now c.args.first (map shape_of c.loop-task.nodes.items) c.loop-task.tasks.items c.pop.new.self.items
    c.in-Some.task c.loop-task.inner.class c.loop-task.inner.place c.in-Leave.user c.in-Some.ensures.items c.in-Leave.is c.loop-task.invariant in
    wrapped_last ss c.args.classes.now c.args.first (map shape_of c.wrap.new.nodes.items) c.in-Leave.user c.in_ok-place.place c.requires.classes
    c.requires.cyclic.within c.if-user-class.true
    (built_round ss c.args.classes.now c.args.first c.loop-task.nodes.items c.wrap.new.nodes.items (reverse c.pop.new.self.items)
    c.loop-task.inner.class c.loop-task.inner.place c.in-Leave.user c.in_ok-place.place c.requires.table c.requires.classes
    c.requires.cyclic.within u c.in_ok-place.ensures.place c.in_ok-place.ensures.pushed)

pub loop-task-preserved : goal.loop-task-preserved
loop-task-preserved c =
    let ss = map shape_of c.args.nodes.now.items in
    let u : IsUnfolding ss c.args.classes.now c.args.first (map shape_of c.loop-task.nodes.items) (task.Leave c.in-Leave.user ∷ reverse c.pop.new.self.items)
    c.loop-task.inner.class c.loop-task.inner.place =
    unfolding_popped ss c.args.classes.now c.args.first (map shape_of c.loop-task.nodes.items) c.loop-task.tasks.items c.pop.new.self.items
    c.in-Some.task c.loop-task.inner.class c.loop-task.inner.place c.in-Leave.user c.in-Some.ensures.items c.in-Leave.is c.loop-task.invariant in
    wrapped_next ss c.args.classes.now c.args.first (map shape_of c.loop-task.nodes.items) (map shape_of c.wrap.new.nodes.items)
    (reverse c.pop.new.self.items) c.loop-task.inner.class c.loop-task.inner.place c.in-Leave.user c.in_ok-place.place c.if-user-class.false u
    (built_round ss c.args.classes.now c.args.first c.loop-task.nodes.items c.wrap.new.nodes.items (reverse c.pop.new.self.items)
    c.loop-task.inner.class c.loop-task.inner.place c.in-Leave.user c.in_ok-place.place c.requires.table c.requires.classes
    c.requires.cyclic.within u c.in_ok-place.ensures.place c.in_ok-place.ensures.pushed)
