use Rattle.std.proofs.Common.{◌<◌, length, subst, sym}
use Rattle.cu_fixity.specs.declared.tree.Cell.TheVariants.{Operand}
use Rattle.cu_fixity.proofs.PartLemmas.{found_part, one_taken}
use Rattle.cu_forms.proofs.tree_order.in_order.Goals as goal

pub loop-cell-preserved : goal.loop-cell-preserved
loop-cell-preserved g c =
    let parts = c.args.parts.now in
    let i = c.loop-cell.cell-index in
    let n = c.number.result in
    let p = c.index-parts-number.result in
    let within : n < length parts = subst (λ m. m < length parts) (sym c.number.ensures) (c.requires i (Operand 0) c.loop-cell-test.true) in
    one_taken parts c.args.cells.now i (Operand 0) n p c.loop-cell.ordered.items c.push.new.self.items c.loop-cell.invariant c.loop-cell-test.true
    c.number.ensures (found_part parts n p within c.index-parts-number.is) c.in_ok-push.ensures.items
