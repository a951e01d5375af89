use Rattle.cu_values.specs.declared.cell.Cell.TheVariants.{Bottom}
use Rattle.cu_values.proofs.ArgumentLemmas.{first_cell, some_cells}
use Rattle.cu_values.specs.Views.{viewed}
use Rattle.cu_values.proofs.views.ValueRef.head.Goals as goal

pub bounds-cells-0 : goal.bounds-cells-0
bounds-cells-0 c = some_cells (viewed c.args.self) c.cells.result.now c.cells.ensures

pub returns : goal.returns
returns c = first_cell (viewed c.args.self) c.cells.result.now Bottom c.cells.ensures
