use Rattle.std.proofs.Common.{◌∙◌, ap, map, subst, sym, take_all}
use Rattle.cu_names.specs.Texts.{text_of}
use Rattle.cu_syntax.specs.Answer.{item_meaning, module_meaning}
use Rattle.cu_syntax.specs.Owners.{ModuleIsOf}
use Rattle.cu_toplevel.specs.Declarations.{AreListed, Lists}
use Rattle.cu_toplevel.specs.Inside.Gathering.{and_items}
use Rattle.cu_toplevel.proofs.DeclarationLemmas.{item_step, no_item}
use Rattle.cu_toplevel.proofs.declarations.Declarations.add_items.Goals as goal

pub items-init : goal.items-init
items-init c = λ names before differ has_module has. subst (λ (l : Lists). AreListed names l c.args.self.now) (no_item (text_of names c.args.module.now.name) before) has

pub items-preserved : goal.items-preserved
items-preserved c = λ names before differ has_module has.
    let m = c.args.module.now.name in
    item_step names m c.name-owner.result before c.items-item-items.result.now c.items.item-index c.item-item.result c.items.self c.add_item.new.self c.name-owner.ensures c.items-test.true c.item-item.is
    has_module.known (c.items-item-items.ensures.owned m names (subst (ModuleIsOf m names) (sym c.syntax.ensures) has_module.owned))
    (λ before known own has. c.in_ok-add_item.ensures names before differ known own has) (c.items.invariant names before differ has_module has)

pub returns : goal.returns
returns c = λ names before differ has_module has.
    subst (λ (l : Lists). AreListed names l c.items.self)
    (ap (λ items. and_items (text_of names c.args.module.now.name) items before)
    (ap (map (item_meaning names)) (take_all c.items.item-index c.items-item-items.result.now c.items-test.false)
    ∙ c.items-item-items.ensures.meaning names ∙ ap (λ s. (module_meaning names s).items) c.syntax.ensures))
    (c.items.invariant names before differ has_module has)
