use Rattle.std.proofs.Common.{◌∷◌, []}
use Rattle.cu_values.specs.Cells.{arity_of}
use Rattle.cu_prooftext.specs.Inside.Loops.{with_front}
use Rattle.cu_prooftext.specs.Inside.Reading.{cells_at, value_at}
use Rattle.cu_prooftext.proofs.CellSteps.{value_read, value_spelled, value_stops}
use Rattle.cu_prooftext.proofs.GivesLaws.{fails_on, gives_err}
use Rattle.cu_prooftext.proofs.cells.value_at.Goals as goal

pub returns-in_err-cells : goal.returns-in_err-cells
returns-in_err-cells c =
    gives_err _ c.from_residual-in_err-cells.result c.in_err-cells.field-0.0 (value_at c.args.bytes.now) c.from_residual-in_err-cells.ensures.1
    (fails_on c.in_err-cells.field-0.0 (with_front (c.in_ok-first.first ∷ []) (cells_at (arity_of c.in_ok-first.first) c.in_ok-first.rest.now)) (value_at c.args.bytes.now)
    (λ n e. value_stops c.args.bytes.now c.in_ok-first.rest.now c.in_ok-first.first n c.in_ok-first.ensures e) c.in_err-cells.ensures)

pub spelled-requires : goal.spelled-requires
spelled-requires c =
    value_spelled c.args.bytes.now c.in_ok-first.rest.now c.in_ok-cells.rest.now c.in_ok-first.first c.in_ok-cells.cells.items c.in_ok-first.ensures c.in_ok-cells.ensures

pub returns : goal.returns
returns c =
    value_read c.args.bytes.now c.in_ok-first.rest.now c.in_ok-cells.rest.now c.in_ok-first.first c.in_ok-cells.cells.items c.spelled.result c.in_ok-first.ensures c.in_ok-cells.ensures
    c.spelled.ensures.read
