-- Heads decide where they differ; else their arguments are still to be compared.
use Rattle.std.proofs.Common.{rules, ◌≡◌, ◌+◌, ◌<◌, ◌≤◌, ◌^◌, arith, drop, get_or, length, sym, ◌∙◌}
use Rattle.std.specs.declared.cmp.Ordering.TheVariants.{Equal}
use borrow.Author.Tests.{tests}
use Rattle.cu_values.specs.declared.cell.Cell.TheVariants.{Bottom}
use Rattle.cu_values.specs.Cells.{arity_of}
use Rattle.cu_values.specs.Inside.HeadsOrder.{cell_order}
use Rattle.cu_values.proofs.OrderLemmas.{arity_room, left_from, order_beginning, order_differ_at, order_end, order_step_at}
use Rattle.cu_values.specs.Views.{viewed}
use Rattle.cu_values.proofs.views.ValueRef.cmp.Goals as goal

pub loop-pairs-init : goal.loop-pairs-init
loop-pairs-init c =
    order_beginning (viewed c.args.self) (viewed c.args.other) _ _ _ _ c.cells-cells.ensures c.cells-others.ensures c.one-pairs.ensures.left c.one-pairs.ensures.last

pub returns-then-ne : goal.returns-then-ne
returns-then-ne c =
    let cells = c.cells-cells.result.now in
    let others = c.cells-others.result.now in
    let i = c.loop-pairs.i in
    let compared : c.compare-order.result ≡ cell_order (get_or cells i Bottom) (get_or others i Bottom) = c.compare-order.ensures in
    let unlike : c.compare-order.result ≡ Equal → ⊥ = search (rules, tests) in
    let differ : cell_order (get_or cells i Bottom) (get_or others i Bottom) ≡ Equal → ⊥ = λ e. unlike (compared ∙ e) in
    compared ∙ sym (order_differ_at cells others i c.loop-pairs.pairs.left Bottom c.loop-pairs.pairs.last _ c.loop-pairs-test.true c.loop-pairs.invariant differ)

pub after-pairs-requires-clause-fits : goal.after-pairs-requires-clause-fits
after-pairs-requires-clause-fits c =
    let cells = c.cells-cells.result.now in
    let others = c.cells-others.result.now in
    let small : length cells < 2 ^ 63 = omega (arith, c.cells-cells.type_inv) in
    let room : c.loop-pairs.pairs.left + arity_of (get_or cells c.loop-pairs.i Bottom) ≤ length cells + 1 =
    arity_room cells others c.loop-pairs.i c.loop-pairs.pairs.left Bottom c.loop-pairs.pairs.last _ c.loop-pairs-test.true c.loop-pairs.invariant in
    omega (arith, room, small, c.arity.ensures)

pub loop-pairs-preserved : goal.loop-pairs-preserved
loop-pairs-preserved c =
    let cells = c.cells-cells.result.now in
    let others = c.cells-others.result.now in
    let i = c.loop-pairs.i in
    let alike : c.compare-order.result ≡ Equal = search (rules, tests) in
    let same : cell_order (get_or cells i Bottom) (get_or others i Bottom) ≡ Equal = sym c.compare-order.ensures ∙ alike in
    order_step_at cells others i c.loop-pairs.pairs.left Bottom c.loop-pairs.pairs.last _ c.after-pairs.result.left c.after-pairs.result.last
    c.loop-pairs-test.true c.loop-pairs.invariant same
    (left_from c.arity.result c.arity-in-loop-pairs.result _ _ c.loop-pairs.pairs.left c.loop-pairs.pairs.last _ _ c.arity.ensures
    c.arity-in-loop-pairs.ensures c.loop-pairs-test.true c.after-pairs.ensures.same c.after-pairs.ensures.differ)

pub returns : goal.returns
returns c =
    order_end (drop c.loop-pairs.i c.cells-cells.result.now) (drop c.loop-pairs.i c.cells-others.result.now) c.loop-pairs.pairs.left c.loop-pairs.pairs.last _
    (omega arith) c.loop-pairs.invariant
