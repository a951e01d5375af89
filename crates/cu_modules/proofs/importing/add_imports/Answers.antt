use Rattle.std.proofs.Common.{◌∙◌, ◌++◌, append-nil, ap, sym}
use Rattle.cu_modules.specs.Inside.Imported.{option_imports}
use Rattle.cu_modules.proofs.ImportedLemmas.{all_imports, item_imports}
use Rattle.cu_modules.proofs.importing.add_imports.Goals as goal

pub items-preserved-in_default : goal.items-preserved-in_default
items-preserved-in_default c = λ names before has is.
    let m = c.args.module.now in
    item_imports names m before c.items-item-items.result.now c.items.item-index c.item-item.result c.items.imports.items c.items.imports.items c.in_ok-import.field-0 c.items-test.true c.item-item.is
    (c.items-item-items.ensures.owned m.name names has.owned) (sym (ap (λ told. c.items.imports.items ++ option_imports told) c.in_default.is ∙ append-nil c.items.imports.items))
    (λ own. c.in_ok-import.ensures m.name names own) (c.items.invariant names before has is)

pub items-preserved : goal.items-preserved
items-preserved c = λ names before has is.
    let m = c.args.module.now in
    item_imports names m before c.items-item-items.result.now c.items.item-index c.item-item.result c.items.imports.items c.push.new.self.items c.in_ok-import.field-0 c.items-test.true c.item-item.is
    (c.items-item-items.ensures.owned m.name names has.owned) (c.in_ok-push.ensures.items ∙ sym (ap (λ told. c.items.imports.items ++ option_imports told) c.in-Some.is))
    (λ own. c.in_ok-import.ensures m.name names own) (c.items.invariant names before has is)

pub returns : goal.returns
returns c = λ names before has is.
    all_imports names c.args.module.now before c.items-item-items.result.now c.items.item-index c.items.imports.items c.items-test.false (c.items-item-items.ensures.meaning names)
    (c.items.invariant names before has is)
