use Rattle.std.proofs.Common.{◌∙◌, ap, map, refl, subst, sym, take_all}
use Rattle.std.proofs.lemmas.List.Elements.{All-nil}
use Rattle.std.specs.List.{All}
use Rattle.cu_syntax.specs.Answer.{item_meaning, module_meaning}
use Rattle.cu_syntax.specs.declared.text.Item.{Item}
use Rattle.cu_syntax.specs.Owners.{ItemIsOf, ModuleIsOf}
use Rattle.cu_toplevel.specs.Heads.{HeadIsOf, head_meaning, head_of_group}
use Rattle.cu_translation.specs.Rules.{groups, rule_in_item}
use Rattle.cu_toplevel.proofs.HeadLemmas.{begun_next, heads_next}
use Rattle.cu_toplevel.proofs.NameLemmas.{map_twice}
use Rattle.cu_toplevel.proofs.function_heads.heads.Goals as goal

pub items-init : goal.items-init
items-init c = λ names differ has. (
  record { same = refl; known = tt },
  ap (map (head_meaning names)) c.new-heads.ensures.items,
  subst (All (HeadIsOf c.args.module.now.name names)) (sym c.new-heads.ensures.items) (All-nil (HeadIsOf c.args.module.now.name names)),
)

pub items-preserved : goal.items-preserved
items-preserved c = λ names differ has.
    let owner = c.args.module.now.name in
    let items = c.items-item-items.result.now in
    let all = c.items-item-items.ensures.owned owner names (subst (ModuleIsOf owner names) (sym c.syntax.ensures) has.owned) in
    let own = subst (λ (i : Item). ItemIsOf owner names i) (sym c.item-item.is) (all c.items.item-index c.item-item.result c.items-test.true) in
    let before = c.items.invariant names differ has in (
      begun_next names Item (λ i. rule_in_item (item_meaning names i)) items c.items.item-index c.item-item.result c.in_ok-begun.begun c.items-test.true c.item-item.is
          (c.in_ok-begun.ensures.name owner names _ differ own before.0),
      heads_next Item (λ i. rule_in_item (item_meaning names i)) items c.items.item-index c.item-item.result _ c.items-test.true c.item-item.is
          (c.in_ok-begun.ensures.heads owner names _ _ differ own before.0 before.1),
      c.in_ok-begun.ensures.owned owner names own before.2,
    )

pub returns : goal.returns
returns c = λ names differ has.
    let items = c.items-item-items.result.now in
    let before = c.items.invariant names differ has in
    record {
      are = before.1 ∙ ap (λ ds. map head_of_group (groups ds))
          (ap (map (λ i. rule_in_item (item_meaning names i))) (take_all c.items.item-index items c.items-test.false) ∙ sym (map_twice rule_in_item (item_meaning names) items)
          ∙ ap (map rule_in_item) (c.items-item-items.ensures.meaning names ∙ ap (λ s. (module_meaning names s).items) c.syntax.ensures));
      owned = before.2;
    }
