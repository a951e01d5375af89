use Rattle.std.proofs.Common.{refl, subst, sym}
use Rattle.std.proofs.lemmas.List.Elements.{All-get_or}
use Rattle.cu_syntax.specs.Answer.{item_meaning}
use Rattle.cu_syntax.specs.Owners.{ItemIsOf}
use Rattle.cu_translation.specs.Rules.{rule_in_item}
use Rattle.cu_locals.specs.Text.{text}
use Rattle.cu_sites.proofs.RuleLemmas.{gathers_all, gathers_more, gathers_none}
use Rattle.cu_sites.proofs.grouping.groups.Goals as goal

pub loop-item-init : goal.loop-item-init
loop-item-init c t all = gathers_none t c.args.items.now _ c.new.ensures.items refl

pub loop-item-preserved : goal.loop-item-preserved
loop-item-preserved c t all =
    let items = c.args.items.now in
    let before = c.loop-item.invariant t all in
    let of = subst (ItemIsOf t.owner t.names) (sym c.item-item.is) (All-get_or (ItemIsOf t.owner t.names) items c.loop-item.item-index c.item-item.result c.loop-item-test.true all) in
    gathers_more t items c.loop-item.item-index c.item-item.result c.loop-item.grouping c.read.new.self c.item-item.is c.loop-item-test.true before
    (c.in_ok-read.ensures t (rule_in_item (item_meaning t.names c.item-item.result)) before.owned (c.in_ok-found.ensures t of))

pub returns : goal.returns
returns c owner names differ all =
    let t = text owner names differ in
    gathers_all t c.args.items.now c.loop-item.item-index c.loop-item.grouping c.end.new.self c.loop-item-test.false (c.loop-item.invariant t all) (c.in_ok-end.ensures.reads t) c.in_ok-end.ensures.ends
