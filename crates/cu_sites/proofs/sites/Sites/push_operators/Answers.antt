use Rattle.std.proofs.Common.{arith, subst, sym, ◌<◌, length}
use Rattle.std.proofs.lemmas.List.Elements.{All-get_or}
use Rattle.cu_syntax.specs.Owners.{OperatorItemIsOf}
use Rattle.cu_sites.proofs.UseLemmas.{operators_end, operators_next}
use Rattle.cu_sites.proofs.sites.Sites.push_operators.Goals as goal

pub loop-item-init : goal.loop-item-init
loop-item-init c t names end at of rest = rest

pub loop-item-preserved : goal.loop-item-preserved
loop-item-preserved c t names end at of rest =
    let items = c.args.items.now in
    let i = c.loop-item.item-index in
    let x = c.item-item.result in
    let low : i < length items = omega arith in
    let owned = subst (OperatorItemIsOf t.owner t.names) (sym c.item-item.is) (All-get_or (OperatorItemIsOf t.owner t.names) items i x low of) in
    c.loop-item.invariant t names end at of
    (operators_next t.names names items i x x c.loop-item.found.items c.push_use.new.found.items end c.item-item.is low
    (c.in_ok-push_use.ensures t names at owned.0) rest)

pub returns : goal.returns
returns c t names at of =
    c.loop-item.invariant t names c.loop-item.found.items at of
    (operators_end t.names names c.args.items.now c.loop-item.item-index c.loop-item.found.items (omega arith))
