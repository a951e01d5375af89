use Rattle.std.proofs.Common.{◌≡◌, ◌++◌, map, take}
use Rattle.cu_types.proofs.order.Walk.enter_all.Given as goal
use Rattle.cu_types.specs.declared.order.Task.TheVariants as task

abbrev pub invariant-loop-argument : goal.invariant-loop-argument
invariant-loop-argument l = record {
  states : l.self.states ≡ l.initial.self.states;
  solved : l.self.solved ≡ l.initial.self.solved;
  tasks : l.self.tasks.items ≡ l.initial.self.tasks.items ++ map (λ a. task.Enter a) (take l.argument-index l.arguments);
}
