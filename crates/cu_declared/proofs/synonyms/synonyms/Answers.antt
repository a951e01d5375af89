use Rattle.std.proofs.Common.{subst, sym}
use Rattle.std.proofs.lemmas.List.Elements.{All-get_or}
use Rattle.cu_syntax.specs.Owners.{ItemIsOf}
use Rattle.cu_declared.specs.Inside.Items.{item_synonyms}
use Rattle.cu_declared.specs.Inside.Synonyms.{IsKept}
use Rattle.cu_declared.proofs.SynonymLemmas.{so_far_all, so_far_more, so_far_none, so_far_same}
use Rattle.cu_declared.proofs.synonyms.synonyms.Goals as goal

pub items-init : goal.items-init
items-init c owner names all = so_far_none owner names c.args.items.now c.new-found.result.items c.new-found.ensures.items

pub items-preserved-in_default : goal.items-preserved-in_default
items-preserved-in_default c owner names all =
    let of = subst (ItemIsOf owner names) (sym c.item-item.is) (All-get_or (ItemIsOf owner names) c.args.items.now c.items.item-index c.item-item.result c.items-test.true all) in
    so_far_same owner names c.args.items.now c.items.item-index c.item-item.result c.items.found.items c.item-item.is c.items-test.true
    (subst (IsKept owner names (item_synonyms names c.item-item.result)) c.in_default.is (c.in_ok-synonym.ensures owner names of)) (c.items.invariant owner names all)

pub items-preserved : goal.items-preserved
items-preserved c owner names all =
    let of = subst (ItemIsOf owner names) (sym c.item-item.is) (All-get_or (ItemIsOf owner names) c.args.items.now c.items.item-index c.item-item.result c.items-test.true all) in
    so_far_more owner names c.args.items.now c.items.item-index c.item-item.result c.in-Some.synonym c.items.found.items c.push.new.self.items c.item-item.is c.items-test.true
    (subst (IsKept owner names (item_synonyms names c.item-item.result)) c.in-Some.is (c.in_ok-synonym.ensures owner names of)) c.in_ok-push.ensures.items (c.items.invariant owner names all)

pub returns : goal.returns
returns c owner names all = so_far_all owner names c.args.items.now c.items.item-index c.items.found.items c.items-test.false (c.items.invariant owner names all)
