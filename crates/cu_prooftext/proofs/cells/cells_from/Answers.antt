use Rattle.std.proofs.Common.{◌∙◌, ◌-◌, ◌∷◌, [], arith, sym}
use Rattle.cu_values.specs.Cells.{arity_of}
use Rattle.cu_prooftext.specs.Inside.Loops.{with_front}
use Rattle.cu_prooftext.specs.Inside.Reading.{cells_at, next_cell}
use Rattle.cu_prooftext.proofs.CellSteps.{cell_shorter, cells_end, cells_fail, cells_go}
use Rattle.cu_prooftext.proofs.GivesLaws.{fails_on, gives_err}
use Rattle.cu_prooftext.proofs.cells.cells_from.Goals as goal

pub returns-in_err-cell : goal.returns-in_err-cell
returns-in_err-cell c =
    let k = c.loop-needed in
    gives_err _ c.from_residual-in_err-cell.result c.in_err-cell.field-0.0 (with_front (c.args.first ∷ []) (cells_at (arity_of c.args.first) c.args.bytes.now)) c.from_residual-in_err-cell.ensures.1
    (fails_on c.in_err-cell.field-0.0 (next_cell 0 k.rest.now) (with_front (c.args.first ∷ []) (cells_at (arity_of c.args.first) c.args.bytes.now))
    (λ n e. sym k.invariant.0 ∙ cells_fail k.cells.items k.needed k.rest.now n c.loop-needed-test.true e) c.in_err-cell.ensures)

pub loop-needed-smaller : goal.loop-needed-smaller
loop-needed-smaller c =
    cell_shorter c.loop-needed.needed c.loop-needed.rest.now c.in_ok-cell.after.now c.in_ok-cell.cell c.loop-needed-test.true c.in_ok-cell.ensures

pub loop-needed-preserved : goal.loop-needed-preserved
loop-needed-preserved c =
    let k = c.loop-needed in
    let len = c.in_ok-push-2.ensures.len in
    let bound = c.needed_after-needed.ensures.bound in
    let before = k.invariant.1 in (
      cells_go k.cells.items _ k.needed c.needed_after-needed.result k.rest.now c.in_ok-cell.after.now c.in_ok-cell.cell _ c.in_ok-push-2.ensures.items c.needed_after-needed.ensures.exact c.loop-needed-test.true c.in_ok-cell.ensures k.invariant.0,
      omega (arith, len, bound, before),
    )

pub returns : goal.returns
returns c =
    let k = c.loop-needed in
    sym k.invariant.0 ∙ cells_end k.cells.items k.needed k.rest.now (omega arith)
