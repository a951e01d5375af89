use Rattle.std.proofs.Common.{◌≡◌, drop}
use Rattle.std.specs.List.{list_all}
use Rattle.cu_kernel.specs.Heads.{heads_program}
use Rattle.cu_crwl.specs.Inside.CellsOf.{cell_is_of}
use Rattle.cu_crwl.proofs.of_program.cells_are_of.Given as goal

abbrev pub invariant-loop-cell : goal.invariant-loop-cell
invariant-loop-cell l = list_all (cell_is_of (heads_program l.heads)) (drop l.cell-index l.cells) ≡ list_all (cell_is_of (heads_program l.heads)) l.cells
