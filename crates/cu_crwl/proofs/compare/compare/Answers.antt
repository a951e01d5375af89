-- The heads of the first pair decide, or leave their arguments to be compared.
use Rattle.std.proofs.Common.{◌+◌, ◌<◌, ◌≤◌, ◌^◌, arith, ap, drop, get_or, length, sym, ◌∙◌}
use Rattle.cu_values.specs.Cells.{arity_of}
use Rattle.cu_values.specs.declared.cell.Cell.TheVariants.{Bottom}
use Rattle.cu_crwl.proofs.CompareLaws.{alike_at, arity_room, begins, differ_at, ending, ends, left_from, no_answer}
use Rattle.cu_crwl.proofs.compare.compare.Goals as goal

pub loop-pairs-init : goal.loop-pairs-init
loop-pairs-init c = begins c.args.left.now c.args.right.now c.cells-cells.result.now c.cells-others.result.now c.cells-cells.ensures c.cells-others.ensures

pub returns-in-Unanswered : goal.returns-in-Unanswered
returns-in-Unanswered c =
    no_answer c.cells-cells.result.now c.cells-others.result.now c.loop-pairs.i c.loop-pairs.pairs.left Bottom (ending c.loop-pairs.pairs.whole) _
    c.loop-pairs-test.true c.loop-pairs.invariant c.in-Unanswered.ensures

pub returns-in-Different : goal.returns-in-Different
returns-in-Different c =
    differ_at c.cells-cells.result.now c.cells-others.result.now c.loop-pairs.i c.loop-pairs.pairs.left Bottom (ending c.loop-pairs.pairs.whole) _
    c.loop-pairs-test.true c.loop-pairs.invariant c.in-Different.ensures

pub after-pairs-requires-clause-fits : goal.after-pairs-requires-clause-fits
after-pairs-requires-clause-fits c =
    let cells = c.cells-cells.result.now in
    let small : length cells < 2 ^ 63 = omega (arith, c.cells-cells.type_inv) in
    let room : c.loop-pairs.pairs.left + arity_of (get_or cells c.loop-pairs.i Bottom) ≤ length cells + 1 =
    arity_room cells c.cells-others.result.now c.loop-pairs.i c.loop-pairs.pairs.left Bottom (ending c.loop-pairs.pairs.whole) _ c.loop-pairs-test.true c.loop-pairs.invariant in
    omega (arith, room, small, c.arity.ensures)

pub loop-pairs-preserved : goal.loop-pairs-preserved
loop-pairs-preserved c =
    alike_at c.cells-cells.result.now c.cells-others.result.now c.loop-pairs.i c.loop-pairs.pairs.left Bottom c.loop-pairs.pairs.whole _
    c.after-pairs.result.left c.after-pairs.result.whole c.loop-pairs-test.true c.loop-pairs.invariant c.in-Alike.ensures
    (left_from c.arity.result c.arity-in-Alike.result _ _ c.loop-pairs.pairs.left c.loop-pairs.pairs.whole _ _ c.arity.ensures c.arity-in-Alike.ensures
    c.loop-pairs-test.true c.after-pairs.ensures.same c.after-pairs.ensures.differ)

pub returns-then-pairs : goal.returns-then-pairs
returns-then-pairs c =
    sym (ap ending c.if-pairs.true)
    ∙ ends (drop c.loop-pairs.i c.cells-cells.result.now) (drop c.loop-pairs.i c.cells-others.result.now) c.loop-pairs.pairs.left (ending c.loop-pairs.pairs.whole) _
    (omega arith) c.loop-pairs.invariant

pub returns-else-pairs : goal.returns-else-pairs
returns-else-pairs c =
    sym (ap ending c.if-pairs.false)
    ∙ ends (drop c.loop-pairs.i c.cells-cells.result.now) (drop c.loop-pairs.i c.cells-others.result.now) c.loop-pairs.pairs.left (ending c.loop-pairs.pairs.whole) _
    (omega arith) c.loop-pairs.invariant
