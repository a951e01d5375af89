-- The cells so far, and those of the values that are left, are those of all.
use Rattle.std.proofs.Common.{◌≡◌, ◌∷◌, ◌++◌, drop}
use Rattle.cu_values.specs.declared.cell.Cell.TheVariants.{Con}
use Rattle.cu_crwl.proofs.ListCells.{list_cells}
use Rattle.cu_crwl.proofs.apply.collected.Given as goal

abbrev pub invariant-loop-value : goal.invariant-loop-value
invariant-loop-value l =
    l.cells.items ++ list_cells l.heads.special.now.cons (drop l.value-index l.values) ≡ Con l.fn.constructor 1 ∷ list_cells l.heads.special.now.cons l.values
