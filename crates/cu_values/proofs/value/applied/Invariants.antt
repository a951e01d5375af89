-- What is written, and the cells of what is left, are the whole.
use Rattle.std.proofs.Common.{◌≡◌, ◌∷◌, ◌++◌, drop}
use Rattle.cu_calculus.specs.Value.{values_of}
use Rattle.cu_values.specs.Cells.{spell_all}
use Rattle.cu_values.proofs.value.applied.Given as goal

abbrev pub invariant-loop-argument : goal.invariant-loop-argument
invariant-loop-argument l =
    l.cells.items ++ spell_all (values_of (drop l.argument-index l.arguments)) ≡ l.fn.head ∷ spell_all (values_of l.arguments)
