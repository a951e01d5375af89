use Rattle.std.proofs.Common.{◌≡◌, ◌≤◌, ◌++◌, ◌∷◌, drop, length, map, reverse}
use Rattle.cu_types.proofs.numbering.push_tasks.Given as goal
use Rattle.cu_types.specs.declared.order.Task.TheVariants as task

abbrev pub decreases-loop-left : goal.decreases-loop-left
decreases-loop-left l = l.left

abbrev pub invariant-loop-left : goal.invariant-loop-left
invariant-loop-left l = record {
  few : l.left ≤ length l.arguments;
  pushed : reverse l.tasks.items ≡ map (λ a. task.Enter a) (drop l.left l.arguments) ++ task.Leave l.place ∷ reverse l.fn.tasks.items;
}
