-- The cells are those of the constructor on the list.
use Rattle.std.proofs.Common.{◌+◌, List, ◌++◌, ap, drop, ◌∙◌}
use Rattle.std.proofs.lemmas.List.{drop_all}
use Rattle.cu_kernel.specs.Heads.{heads_program}
use Rattle.cu_values.specs.declared.cell.Cell.{Cell}
use Rattle.cu_crwl.proofs.ListCells.{all_written, is_one, list_after, one_written, reads}
use Rattle.cu_crwl.proofs.Pairwise.{left}
use Rattle.cu_crwl.proofs.apply.collected.Goals as goal

pub loop-value-preserved : goal.loop-value-preserved
loop-value-preserved c =
    let cons = c.args.heads.now.special.now.cons in
    let values = c.args.values.now in
    let i = c.loop-value.value-index in
    let v = c.value-item.result in
    let after = c.push-in-loop-value.new.self.items in
    one_written cons c.loop-value.cells.items after c.extend_from_slice.new.self.items _ v (drop i values) (drop (i + 1) values)
    (left values i v c.loop-value-test.true c.value-item.is) c.in_ok-push-2.ensures.items
    (c.in_ok-extend_from_slice.ensures.items ∙ ap (λ (cs : List Cell). after ++ cs) c.cells.ensures) c.loop-value.invariant

pub spelled-requires : goal.spelled-requires
spelled-requires c =
    let special = c.args.heads.now.special.now in
    let values = c.args.values.now in
    let i = c.loop-value.value-index in
    is_one c.push-2.new.self.items (list_after c.args.constructor special.nil special.cons values)
    (all_written c.args.constructor special.nil special.cons c.loop-value.cells.items c.push-2.new.self.items (drop i values) values
    (drop_all i values c.loop-value-test.false) c.loop-value.invariant c.in_ok-push-3.ensures.items)

pub returns : goal.returns
unfolding heads_program
returns c =
    let special = c.args.heads.now.special.now in
    let values = c.args.values.now in
    let i = c.loop-value.value-index in
    c.spelled.ensures.read
    ∙ reads c.push-2.new.self.items (list_after c.args.constructor special.nil special.cons values)
    (all_written c.args.constructor special.nil special.cons c.loop-value.cells.items c.push-2.new.self.items (drop i values) values
    (drop_all i values c.loop-value-test.false) c.loop-value.invariant c.in_ok-push-3.ensures.items)
