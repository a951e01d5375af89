use Rattle.std.proofs.Common.{◌∙◌, ap, subst, sym}
use Rattle.cu_entities.specs.declared.entities.Sort.TheVariants as sort
use Rattle.cu_syntax.specs.Answer.{item_meaning}
use Rattle.cu_syntax.specs.Declarations.{declaration_node}
use Rattle.cu_syntax.specs.Items.{item_node}
use Rattle.cu_syntax.specs.Owners.{DeclarationNodeIsOf, ItemNodeIsOf}
use Rattle.cu_syntax.specs.Syntax.{DeclarationItem}
use Rattle.cu_names.specs.Texts.{text_of}
use Rattle.cu_modules.specs.OwnEntities.{declared_by}
use Rattle.cu_modules.proofs.OwnLemmas.{data_declared, one_declared}
use Rattle.cu_modules.proofs.own.declare.Goals as goal

pub returns-in-Data : goal.returns-in-Data
returns-in-Data c = λ names before known owned has.
    let o = c.args.owner in
    let own = subst (ItemNodeIsOf o names) c.in-Data.is (c.in_ok-name.ensures.owned o names owned) in
    let are = ap (declared_by (text_of names o)) (sym (c.in_ok-name.ensures.meaning names)) ∙ ap (λ n. declared_by (text_of names o) (item_node names n)) c.in-Data.is in
    data_declared names before (declared_by (text_of names o) (item_meaning names c.args.item.now)) o c.in-Data.name.text c.in-Data.constructors.items c.as_slice.result.now c.add_constructors.result
    c.args.entities.now.items c.push.new.self.items c.add_constructors.new.entities.items
    are c.as_slice.ensures.value c.in_ok-push-in-Data.ensures.items known own.1.text own.3 has
    (λ before all has. c.add_constructors.ensures names before known own.1.text all has)

pub returns-in-Synonym : goal.returns-in-Synonym
returns-in-Synonym c = λ names before known owned has.
    let o = c.args.owner in
    let own = subst (ItemNodeIsOf o names) c.in-Synonym.is (c.in_ok-name.ensures.owned o names owned) in
    let are = ap (declared_by (text_of names o)) (sym (c.in_ok-name.ensures.meaning names)) ∙ ap (λ n. declared_by (text_of names o) (item_node names n)) c.in-Synonym.is in
    one_declared names before (declared_by (text_of names o) (item_meaning names c.args.item.now)) o c.in-Synonym.name.text sort.Synonym c.args.entities.now.items c.push-in-Synonym.new.self.items are c.in_ok-push-in-Synonym.ensures.items known own.1.text tt has

pub returns-in-FunctionRule : goal.returns-in-FunctionRule
returns-in-FunctionRule c = λ names before known owned has.
    let o = c.args.owner in
    let inner = subst (ItemNodeIsOf o names) c.in-Declaration.is (c.in_ok-name.ensures.owned o names owned) in
    let own = subst (DeclarationNodeIsOf o names) c.in-FunctionRule.is (c.in_ok-name-in-Declaration.ensures.owned o names inner) in
    let are = ap (declared_by (text_of names o)) (sym (c.in_ok-name.ensures.meaning names)) ∙ ap (λ n. declared_by (text_of names o) (item_node names n)) c.in-Declaration.is
    ∙ ap (λ d. declared_by (text_of names o) (DeclarationItem d)) (sym (c.in_ok-name-in-Declaration.ensures.meaning names))
    ∙ ap (λ n. declared_by (text_of names o) (DeclarationItem (declaration_node names n))) c.in-FunctionRule.is in
    one_declared names before (declared_by (text_of names o) (item_meaning names c.args.item.now)) o c.in-FunctionRule.name.text sort.Function c.args.entities.now.items c.push-in-FunctionRule.new.self.items are c.in_ok-push-in-FunctionRule.ensures.items known own.1.text tt has
