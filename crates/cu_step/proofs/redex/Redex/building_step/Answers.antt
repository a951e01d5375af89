-- The building goes on by a task, or ends.
use Rattle.std.proofs.Common.{◌≡◌, [], ap, reverse, vec_len}
use Rattle.cu_machine.specs.Rewrite.{alone_follows}
use Rattle.cu_step.specs.Inside.Building.{State, left_by, state_of}
use Rattle.cu_step.specs.declared.build.Target.TheVariants as target
use Rattle.cu_step.specs.declared.build.Task.TheVariants as task
use Rattle.cu_step.proofs.Reversals.{added_first, last_first, none_taken}
use Rattle.cu_step.proofs.Tasks.{works_begin, works_ended, works_less, works_on}
use Rattle.cu_step.proofs.redex.Redex.building_step.Goals as goal

pub loop-task-init : goal.loop-task-init
loop-task-init g c =
    let graph = g.S.Store.content c.args.self.store in
    let start : State = record { graph = graph; root = c.args.self.id; ids = []; scope = c.args.workspace.now.scope.items } in
    works_begin c.args.program.now start (state_of graph c.start_at.new.self) c.args.e c.start_at.new.self.tasks.items (c.in_ok-start_at.ensures.state graph)
    c.in_ok-start_at.ensures.tasks c.requires.id c.requires.nests

pub perform-requires-after_bounds : goal.perform-requires-after_bounds
perform-requires-after_bounds g c κs within = c.loop-task.invariant.there

pub loop-task-preserved : goal.loop-task-preserved
loop-task-preserved g c =
    let start : State = record { graph = g.S.Store.content c.args.self.store; root = c.args.self.id; ids = []; scope = c.args.workspace.now.scope.items } in
    works_on c.args.program.now start (task.Build c.args.e target.Root) (state_of (g.S.Store.content c.loop-task.store) c.loop-task.workspace)
    (state_of (g.S.Store.content c.perform.new.store) c.perform.new.self) (reverse c.loop-task.workspace.tasks.items) c.in-Some.task (reverse c.pop.new.self.items)
    (reverse c.perform.new.self.tasks.items)
    (last_first c.loop-task.workspace.tasks.items c.pop.new.self.items c.in-Some.task c.in-Some.ensures.items)
    c.in_ok-perform.ensures.state
    (added_first c.perform.new.self.tasks.items c.pop.new.self.items (left_by c.args.program.now c.in-Some.task) c.in_ok-perform.ensures.tasks)
    c.loop-task.invariant

pub loop-task-smaller : goal.loop-task-smaller
loop-task-smaller g c =
    let start : State = record { graph = g.S.Store.content c.args.self.store; root = c.args.self.id; ids = []; scope = c.args.workspace.now.scope.items } in
    works_less c.args.program.now start (task.Build c.args.e target.Root) (state_of (g.S.Store.content c.loop-task.store) c.loop-task.workspace)
    (reverse c.loop-task.workspace.tasks.items) c.in-Some.task (reverse c.pop.new.self.items) (reverse c.perform.new.self.tasks.items)
    (last_first c.loop-task.workspace.tasks.items c.pop.new.self.items c.in-Some.task c.in-Some.ensures.items)
    (added_first c.perform.new.self.tasks.items c.pop.new.self.items (left_by c.args.program.now c.in-Some.task) c.in_ok-perform.ensures.tasks)
    c.loop-task.invariant

pub returns : goal.returns
returns g c =
    let none : c.loop-task.workspace.tasks.items ≡ [] =
    none_taken c.loop-task.workspace.tasks.items c.pop.new.self.items (vec_len c.loop-task.workspace.tasks) c.in_default.ensures.cases.0 c.in_default.ensures.rest
    c.in_default.ensures.items in
    ap alone_follows
    (works_ended c.args.program.now c.args.workspace.now.scope.items (g.S.Store.content c.args.self.store) c.args.self.id c.args.e (state_of (g.S.Store.content c.loop-task.store) c.loop-task.workspace)
    (reverse c.loop-task.workspace.tasks.items) (ap reverse none) c.loop-task.invariant)
