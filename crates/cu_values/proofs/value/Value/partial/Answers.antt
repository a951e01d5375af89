use Rattle.cu_calculus.specs.Value as value
use Rattle.cu_calculus.specs.Value.{values_of}
use Rattle.cu_values.proofs.ArgumentLemmas.{partial_cells, read_by, spelled_by}
use Rattle.cu_values.proofs.value.Value.partial.Goals as goal

pub invariant_of-result : goal.invariant_of-result
invariant_of-result c =
    spelled_by (value.Partial c.args.head (values_of c.args.arguments.now)) c.in_ok-cells.cells.items
    (partial_cells c.args.head c.args.arguments.now c.in_ok-cells.cells.items c.in_ok-cells.ensures)

pub returns : goal.returns
returns c =
    read_by (value.Partial c.args.head (values_of c.args.arguments.now)) c.in_ok-cells.cells.items
    (partial_cells c.args.head c.args.arguments.now c.in_ok-cells.cells.items c.in_ok-cells.ensures)
