-- All cells of the value were taken.
use Rattle.std.proofs.Common.{[], ap, sym, ◌∙◌, length, vec_len}
use Rattle.cu_values.specs.declared.cell.Cell.TheVariants as cell
use Rattle.cu_machine.specs.Build.{place_of}
use Rattle.cu_machine.specs.Spell.{push_value}
use Rattle.cu_step.specs.Inside.Pushing.{Work, work_of}
use Rattle.cu_step.proofs.Pushings.{all_taken, alone_there, fed_more}
use Rattle.cu_step.proofs.Reversals.{none_taken}
use Rattle.cu_step.proofs.push.push_value.Goals as goal

pub loop-cell-preserved : goal.loop-cell-preserved
loop-cell-preserved g c =
    fed_more (record { graph = g.S.Store.content c.args.store.now; ids = []; unfinished = [] }) (work_of (g.S.Store.content c.loop-cell.store) c.loop-cell.work)
    (work_of (g.S.Store.content c.take.new.store) c.take.new.self) c.cells-cell-items.result.now c.loop-cell.cell-index cell.Bottom c.loop-cell-test.true c.loop-cell.invariant
    c.in_ok-take.ensures

pub unreachable-requires : goal.unreachable-requires
unreachable-requires g c =
    let whole = all_taken c.args.value.now (g.S.Store.content c.args.store.now) (work_of (g.S.Store.content c.loop-cell.store) c.loop-cell.work) c.cells-cell-items.result.now
    c.loop-cell.cell-index c.loop-cell-test.false c.cells-cell-items.ensures c.loop-cell.invariant in
    let none = none_taken c.loop-cell.work.ids.items c.pop.new.self.items (vec_len c.loop-cell.work.ids) c.in-None.ensures.cases.0 c.in-None.ensures.rest c.in-None.ensures.items in
    let no : ⊥ = cc (ap (λ (w : Work). w.ids) whole, none) in no

pub returns-clause-place : goal.returns-clause-place
returns-clause-place g c =
    let graph = g.S.Store.content c.args.store.now in
    let whole = all_taken c.args.value.now graph (work_of (g.S.Store.content c.loop-cell.store) c.loop-cell.work) c.cells-cell-items.result.now
    c.loop-cell.cell-index c.loop-cell-test.false c.cells-cell-items.ensures c.loop-cell.invariant in
    alone_there c.pop.new.self.items c.in-Some.id (place_of (length graph) (push_value (length graph) c.args.value.now))
    (sym c.in-Some.ensures.items ∙ ap (λ (w : Work). w.ids) whole)

pub returns-clause-content : goal.returns-clause-content
returns-clause-content g c =
    let whole = all_taken c.args.value.now (g.S.Store.content c.args.store.now) (work_of (g.S.Store.content c.loop-cell.store) c.loop-cell.work) c.cells-cell-items.result.now
    c.loop-cell.cell-index c.loop-cell-test.false c.cells-cell-items.ensures c.loop-cell.invariant in
    ap (λ (w : Work). w.graph) whole
