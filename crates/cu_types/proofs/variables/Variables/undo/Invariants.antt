use Rattle.std.proofs.Common.{◌≡◌, length, reverse}
use Rattle.cu_types.proofs.variables.Variables.undo.Given as goal
use Rattle.cu_types.specs.Inside.Variables.{environment, undone}

abbrev pub decreases-loop-binding : goal.decreases-loop-binding
decreases-loop-binding l = length l.left.items

abbrev pub invariant-loop-binding : goal.invariant-loop-binding
invariant-loop-binding l =
    undone (reverse l.left.items) (environment l.self) ≡ undone (reverse l.fn.bindings.items) (environment l.initial.self)
