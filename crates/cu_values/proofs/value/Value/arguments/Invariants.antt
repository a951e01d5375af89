-- The arguments that were copied, and those that are left, are all.
use Rattle.std.proofs.Common.{◌≡◌, ◌++◌}
use Rattle.cu_calculus.specs.Value.{count, list_of}
use Rattle.cu_values.specs.Parts.{arguments_of}
use Rattle.cu_values.specs.Views.{all_viewed}
use Rattle.cu_values.proofs.value.Value.arguments.Given as goal

abbrev pub invariant-loop-argument : goal.invariant-loop-argument
invariant-loop-argument l = l.arguments.items ++ list_of (all_viewed l.left) ≡ list_of (arguments_of l.self)

abbrev pub decreases-loop-argument : goal.decreases-loop-argument
decreases-loop-argument l = count (all_viewed l.left)
