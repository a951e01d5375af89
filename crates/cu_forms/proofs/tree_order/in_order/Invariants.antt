use Rattle.std.specs.Prelude.{◌≡◌, Some, map, take}
use Rattle.cu_fixity.specs.Parts.{taken}
use Rattle.cu_forms.proofs.tree_order.in_order.Given as goal

abbrev pub invariant-loop-cell : goal.invariant-loop-cell
invariant-loop-cell g l = map Some l.ordered.items ≡ map (taken l.parts) (take l.cell-index l.cells)
