use Rattle.std.proofs.Common.{◌∙◌, ap, map, subst, sym, take_all}
use Rattle.cu_syntax.specs.Answer.{item_meaning, module_meaning}
use Rattle.cu_syntax.specs.declared.text.Item.{Item}
use Rattle.cu_syntax.specs.Owners.{ItemIsOf, ModuleIsOf}
use Rattle.cu_toplevel.specs.Inside.SignatureTables.{AreSignatures}
use Rattle.cu_translation.specs.Parts.{signature_of}
use Rattle.cu_toplevel.proofs.SignatureTableLemmas.{item_more}
use Rattle.cu_toplevel.proofs.signature_table.Signatures.of.Goals as goal

pub items-init : goal.items-init
items-init c = λ names differ has. c.new-signatures.ensures c.args.module.now.name names

pub items-preserved : goal.items-preserved
items-preserved c = λ names differ has.
    let owner = c.args.module.now.name in
    let items = c.items-item-items.result.now in
    let all = c.items-item-items.ensures.owned owner names (subst (ModuleIsOf owner names) (sym c.syntax.ensures) has.owned) in
    let own = subst (λ (i : Item). ItemIsOf owner names i) (sym c.item-item.is) (all c.items.item-index c.item-item.result c.items-test.true) in
    item_more owner names items c.items.item-index c.item-item.result c.add_item.new.self c.items-test.true c.item-item.is
    (c.in_ok-add_item.ensures owner names _ differ own (c.items.invariant names differ has))

pub returns : goal.returns
returns c = λ names differ has.
    subst (λ items. AreSignatures c.args.module.now.name names (λ text. signature_of text items) c.items.signatures)
    (ap (map (item_meaning names)) (take_all c.items.item-index c.items-item-items.result.now c.items-test.false)
    ∙ c.items-item-items.ensures.meaning names ∙ ap (λ s. (module_meaning names s).items) c.syntax.ensures)
    (c.items.invariant names differ has)
