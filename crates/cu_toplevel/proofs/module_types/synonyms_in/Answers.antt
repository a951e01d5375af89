use Rattle.std.proofs.Common.{◌∙◌, [], ap, map, subst, sym, take_all}
use Rattle.std.specs.List.{flat_map}
use Rattle.cu_kernel.specs.KernelOf as code
use Rattle.cu_modules.specs.Scopes.{Named}
use Rattle.cu_syntax.specs.Answer.{item_meaning, module_meaning}
use Rattle.cu_syntax.specs.declared.text.Item.{Item}
use Rattle.cu_syntax.specs.Owners.{ItemIsOf, ModuleIsOf}
use Rattle.cu_translation.specs.ModuleTypes.{synonyms_by}
use Rattle.cu_toplevel.proofs.ModuleTypeLemmas.{items_add}
use Rattle.cu_toplevel.proofs.module_types.synonyms_in.Goals as goal

pub items-init : goal.items-init
items-init c = λ names r has. ap (map code.synonym_meaning) c.new-synonyms.ensures.items

pub items-preserved : goal.items-preserved
items-preserved c = λ names r has.
    let owner = c.args.reading.now.«module».now.name in
    let items = c.items-item-items.result.now in
    let all = c.items-item-items.ensures.owned owner names (subst (ModuleIsOf owner names) (sym c.syntax.ensures) has.has.owned) in
    let own = subst (λ (i : Item). ItemIsOf owner names i) (sym c.item-item.is) (all c.items.item-index c.item-item.result c.items-test.true) in
    items_add (synonyms_by r) (item_meaning names) [] items c.items.item-index c.item-item.result _ _ c.items-test.true c.item-item.is
    (c.in_ok-add_synonym.ensures owner names r has own) (c.items.invariant names r has)

pub returns : goal.returns
returns c = λ names r has.
    c.items.invariant names r has
    ∙ ap (flat_map (synonyms_by r))
    (ap (map (item_meaning names)) (take_all c.items.item-index c.items-item-items.result.now c.items-test.false)
    ∙ c.items-item-items.ensures.meaning names ∙ ap (λ s. (module_meaning names s).items) c.syntax.ensures ∙ sym (ap (λ (m : Named). m.syntax.items) has.is))
