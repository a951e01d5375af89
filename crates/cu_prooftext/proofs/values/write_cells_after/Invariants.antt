use Rattle.std.proofs.Common.{◌≡◌, ◌++◌, drop}
use Rattle.std.specs.List.{flat_map}
use Rattle.cu_prooftext.specs.Inside.Cells.{cell_after}
use Rattle.cu_prooftext.proofs.values.write_cells_after.Given as goal

-- what is written and what is left are the whole
abbrev pub invariant-loop-cell : goal.invariant-loop-cell
invariant-loop-cell l =
    l.out.items ++ flat_map cell_after (drop l.cell-index l.cells) ≡ l.fn.out.items ++ flat_map cell_after (l.cells)
