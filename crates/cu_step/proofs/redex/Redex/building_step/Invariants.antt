-- What the tasks that are left come to is the whole. Each task takes some of their weight.
use Rattle.std.proofs.Common.{[], reverse}
use Rattle.cu_step.specs.Inside.Building.{Works, state_of, weight}
use Rattle.cu_step.specs.declared.build.Target.TheVariants as target
use Rattle.cu_step.specs.declared.build.Task.TheVariants as task
use Rattle.cu_step.proofs.redex.Redex.building_step.Given as goal

abbrev pub invariant-loop-task : goal.invariant-loop-task
invariant-loop-task g l =
    Works l.program (record { graph = g.S.Store.content l.fn.self.store; root = l.fn.self.id; ids = []; scope = l.fn.workspace.scope.items })
    (task.Build l.fn.e target.Root) (state_of (g.S.Store.content l.store) l.workspace) (reverse l.workspace.tasks.items)

abbrev pub decreases-loop-task : goal.decreases-loop-task
decreases-loop-task g l = weight l.program (reverse l.workspace.tasks.items)
