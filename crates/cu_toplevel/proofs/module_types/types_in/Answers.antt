use Rattle.std.proofs.Common.{◌∙◌, ◌++◌, ap, append-nil, map, subst, sym, take_all}
use Rattle.std.specs.List.{flat_map}
use Rattle.cu_modules.specs.Scopes.{Named}
use Rattle.cu_syntax.specs.Answer.{item_meaning, module_meaning}
use Rattle.cu_syntax.specs.declared.text.Item.{Item}
use Rattle.cu_syntax.specs.Owners.{ItemIsOf, ModuleIsOf}
use Rattle.cu_translation.specs.ModuleTypes.{first_types, types_by}
use Rattle.cu_translation.specs.Numbered.{only_in_prelude}
use Rattle.cu_toplevel.proofs.ModuleTypeLemmas.{items_add}
use Rattle.cu_toplevel.proofs.module_types.types_in.Goals as goal

pub items-init : goal.items-init
items-init c = λ names r has. c.in_ok-types.ensures names r has ∙ sym (append-nil (only_in_prelude r.m.name (first_types r)))

pub items-preserved : goal.items-preserved
items-preserved c = λ names r has.
    let owner = c.args.reading.now.«module».now.name in
    let items = c.items-item-items.result.now in
    let all = c.items-item-items.ensures.owned owner names (subst (ModuleIsOf owner names) (sym c.syntax.ensures) has.has.owned) in
    let own = subst (λ (i : Item). ItemIsOf owner names i) (sym c.item-item.is) (all c.items.item-index c.item-item.result c.items-test.true) in
    items_add (types_by r) (item_meaning names) (only_in_prelude r.m.name (first_types r)) items c.items.item-index c.item-item.result _ _ c.items-test.true c.item-item.is
    (c.in_ok-add_type.ensures owner names r has own) (c.items.invariant names r has)

pub returns : goal.returns
returns c = λ names r has.
    c.items.invariant names r has
    ∙ ap (λ items. only_in_prelude r.m.name (first_types r) ++ flat_map (types_by r) items)
    (ap (map (item_meaning names)) (take_all c.items.item-index c.items-item-items.result.now c.items-test.false)
    ∙ c.items-item-items.ensures.meaning names ∙ ap (λ s. (module_meaning names s).items) c.syntax.ensures ∙ sym (ap (λ (m : Named). m.syntax.items) has.is))
