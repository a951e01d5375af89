-- Each step of the walk drops a pair of values, or a pair of heads.
use Rattle.std.proofs.Common.{rules, ◌≡◌, false, true, get_or, sym}
use borrow.Author.Tests.{tests}
use Rattle.cu_values.specs.declared.cell.Cell.TheVariants.{Bottom}
use Rattle.cu_values.specs.Approximation.{is_below}
use Rattle.cu_values.proofs.BelowLemmas.{beginning, bottom_at, end_at, other_at, related, same_at}
use Rattle.cu_values.specs.Views.{viewed}
use Rattle.cu_values.proofs.views.ValueRef.leq.Goals as goal

pub loop-cell-init : goal.loop-cell-init
loop-cell-init c =
    beginning (viewed c.args.self) (viewed c.args.other) c.cells-cells.result.now c.cells-others.result.now c.cells-cells.ensures c.cells-others.ensures

pub loop-cell-preserved-then-eq : goal.loop-cell-preserved-then-eq
loop-cell-preserved-then-eq c =
    let cells = c.cells-cells.result.now in
    let unknown : get_or cells c.loop-cell.cell-index Bottom ≡ Bottom = search (rules, tests) in
    bottom_at cells c.cells-others.result.now c.loop-cell.cell-index c.loop-cell.at c.end_of-at.result Bottom
    (is_below (viewed c.args.self) (viewed c.args.other)) c.loop-cell-test.true unknown c.loop-cell.invariant c.end_of-at.ensures.spelled c.end_of-at.ensures.others

pub returns-then-ne-clause-test : goal.returns-then-ne-clause-test
returns-then-ne-clause-test c =
    let cells = c.cells-cells.result.now in
    let others = c.cells-others.result.now in
    let known : get_or cells c.loop-cell.cell-index Bottom ≡ Bottom → ⊥ = search (rules, tests) in
    let differ : get_or others c.loop-cell.at Bottom ≡ get_or cells c.loop-cell.cell-index Bottom → ⊥ = search (rules, tests) in
    sym
    (other_at cells others c.loop-cell.cell-index c.loop-cell.at Bottom (is_below (viewed c.args.self) (viewed c.args.other)) c.loop-cell-test.true known differ
    c.loop-cell.invariant)

pub returns-then-ne-clause-relation : goal.returns-then-ne-clause-relation
returns-then-ne-clause-relation c = related (viewed c.args.self) (viewed c.args.other) false (returns-then-ne-clause-test c)

pub loop-cell-preserved : goal.loop-cell-preserved
loop-cell-preserved c =
    let cells = c.cells-cells.result.now in
    let others = c.cells-others.result.now in
    let same : get_or others c.loop-cell.at Bottom ≡ get_or cells c.loop-cell.cell-index Bottom = search (rules, tests) in
    same_at cells others c.loop-cell.cell-index c.loop-cell.at Bottom (is_below (viewed c.args.self) (viewed c.args.other)) c.loop-cell-test.true same
    c.loop-cell.invariant

pub returns-clause-relation : goal.returns-clause-relation
returns-clause-relation c =
    related (viewed c.args.self) (viewed c.args.other) true
    (sym
    (end_at c.cells-cells.result.now c.cells-others.result.now c.loop-cell.cell-index c.loop-cell.at _ c.loop-cell-test.false
    c.loop-cell.invariant))
