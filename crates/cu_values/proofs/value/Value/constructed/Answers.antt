use Rattle.cu_calculus.specs.Value as value
use Rattle.cu_calculus.specs.Value.{values_of}
use Rattle.cu_values.proofs.ArgumentLemmas.{constructed_cells, read_by, spelled_by}
use Rattle.cu_values.proofs.value.Value.constructed.Goals as goal

pub invariant_of-result : goal.invariant_of-result
invariant_of-result c =
    spelled_by (value.Constructed c.args.constructor (values_of c.args.arguments.now)) c.in_ok-cells.cells.items
    (constructed_cells c.args.constructor c.args.arguments.now c.in_ok-cells.cells.items c.in_ok-cells.ensures)

pub returns : goal.returns
returns c =
    read_by (value.Constructed c.args.constructor (values_of c.args.arguments.now)) c.in_ok-cells.cells.items
    (constructed_cells c.args.constructor c.args.arguments.now c.in_ok-cells.cells.items c.in_ok-cells.ensures)
