use Rattle.std.proofs.Common.{◌∙◌, ap, map, subst, sym}
use Rattle.std.specs.List.{All}
use Rattle.cu_kernel.specs.KernelOf as code
use Rattle.cu_syntax.specs.Answer.{item_meaning}
use Rattle.cu_syntax.specs.Names.{name_meaning}
use Rattle.cu_syntax.specs.Owners.{ItemNodeIsOf, NameIsOf}
use Rattle.cu_syntax.specs.Types.{type_meaning}
use Rattle.cu_toplevel.specs.Inside.Declared.{declared_synonym}
use Rattle.cu_toplevel.proofs.ModuleTypeLemmas.{no_synonym, synonym_adds}
use Rattle.cu_toplevel.proofs.module_types.add_synonym.Goals as goal

pub returns-in-Synonym : goal.returns-in-Synonym
returns-in-Synonym c = λ owner names r has is.
    let own = subst (ItemNodeIsOf owner names) c.in-Synonym.is (c.in_ok-name.ensures.owned owner names is) in
    let name = name_meaning names c.in-Synonym.name in
    let parameters = subst (All (NameIsOf owner names)) (sym c.as_slice.ensures.value) own.2 in
    synonym_adds names r (item_meaning names c.args.item.now) c.in_ok-name.field-0 c.in-Synonym.field-0 c.in-Synonym.name c.in-Synonym.parameters c.in-Synonym.t c.args.synonyms.now.items c.push.new.self.items c.in_ok-made-in-Synonym.made
    (c.in_ok-name.ensures.meaning names) c.in-Synonym.is c.in_ok-push-in-Synonym.ensures.items
    (c.in_ok-made-in-Synonym.ensures owner names r has own.1 parameters own.3
    ∙ ap (λ ps. declared_synonym r name (map (name_meaning names) ps) (type_meaning names c.in-Synonym.t)) c.as_slice.ensures.value)

pub returns : goal.returns
returns c = λ owner names r has is.
    no_synonym names r (item_meaning names c.args.item.now) c.in_ok-name.field-0 (map code.synonym_meaning c.args.synonyms.now.items) (c.in_ok-name.ensures.meaning names) c.in_default.not-Synonym
