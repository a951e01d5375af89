use Rattle.std.proofs.Common.{◌≡◌, List, [], map, reverse, subst, arith}
use Rattle.std.proofs.lemmas.Option.{MatchOption-at_none, MatchOption-at_some}
use Rattle.cu_types.proofs.Steps.{never_some, no_tasks, reverse_popped, steps_nearer}
use Rattle.cu_types.proofs.order.Walk.run.Goals as goal
use Rattle.cu_types.specs.Inside.Ordering.{IsCyclic, IsWalk}
use Rattle.cu_types.specs.Table.{shape_of}
use Rattle.cu_types.specs.declared.order.Task.{Task}

pub step-requires-clause-walk : goal.step-requires-clause-walk
step-requires-clause-walk c =
    subst (IsWalk (map shape_of c.args.nodes.now) c.args.classes.now c.loop-task.self.states.items (map shape_of c.loop-task.self.solved.items))
    (reverse_popped c.loop-task.self.tasks.items c.pop.new.self.items c.in-Some.task c.in-Some.ensures.items) c.loop-task.invariant

pub loop-task-preserved : goal.loop-task-preserved
loop-task-preserved c =
    MatchOption-at_none
    (IsWalk (map shape_of c.args.nodes.now) c.args.classes.now c.step.new.self.states.items (map shape_of c.step.new.self.solved.items)
    (reverse c.step.new.self.tasks.items))
    (IsCyclic (map shape_of c.args.nodes.now) c.args.classes.now (reverse c.step.new.self.tasks.items))
    (never_some c.in_ok-place.field-0 c.in_default-2.not-Some) c.in_ok-place.ensures.walk

pub loop-task-smaller : goal.loop-task-smaller
loop-task-smaller c =
    steps_nearer (map shape_of c.args.nodes.now) c.loop-task.self.states.items c.step.new.self.states.items c.loop-task.self.tasks.items
    c.pop.new.self.items c.step.new.self.tasks.items c.in-Some.task c.in-Some.ensures.items c.in_ok-place.ensures.nearer

pub returns-in-Some-2 : goal.returns-in-Some-2
returns-in-Some-2 c =
    MatchOption-at_some
    (IsWalk (map shape_of c.args.nodes.now) c.args.classes.now c.step.new.self.states.items (map shape_of c.step.new.self.solved.items)
    (reverse c.step.new.self.tasks.items))
    (IsCyclic (map shape_of c.args.nodes.now) c.args.classes.now (reverse c.step.new.self.tasks.items))
    c.in-Some-2.place c.in-Some-2.is c.in_ok-place.ensures.walk

pub returns : goal.returns
returns c =
    let none : c.loop-task.self.tasks.items ≡ [] =
    no_tasks c.loop-task.self.tasks.items (omega (arith, c.loop-task.self.tasks.ok.0, c.in_default.ensures.cases.0)) in
    subst (λ (ts : List Task). IsWalk (map shape_of c.args.nodes.now) c.args.classes.now c.loop-task.self.states.items
    (map shape_of c.loop-task.self.solved.items) (reverse ts)) none c.loop-task.invariant
