use Rattle.std.proofs.Common.{◌∙◌, ap, map, sym}
use Rattle.cu_modules.specs.Reading.{HasPrelude}
use Rattle.cu_modules.specs.Scopes.{Named}
use Rattle.cu_names.specs.Texts.{text_of}
use Rattle.cu_translation.specs.ModuleNames.{fixities_in, id_of}
use Rattle.cu_translation.specs.Parts.{imports_in, operator}
use Rattle.cu_toplevel.proofs.NameLemmas.{stands}
use Rattle.cu_toplevel.proofs.TopLemmas.{id_is}
use Rattle.cu_toplevel.proofs.modules.module_info.Goals as goal

pub returns : goal.returns
returns c = λ names r is.
    let differ = is.top.entities.differ in
    let m = c.args.reading.now.module.now in
    let has = is.has in
    let prelude : HasPrelude names c.args.reading.now.top.entities.now.prelude = record { known = is.top.entities.prelude.known; text = is.top.entities.prelude.is } in
    let name = c.name.ensures ∙ sym (id_is names m.name (text_of names m.name) differ (stands names m.name has.known)) ∙ ap (λ (n : Named). id_of names n.name) (sym is.is) ∙ ap (λ table. id_of table r.m.name) (sym is.table) in
    let imports = c.in_ok-imports.ensures names differ has prelude ∙ ap (λ (n : Named). map (id_of names) (imports_in n)) (sym is.is) ∙ ap (λ table. map (id_of table) (imports_in r.m)) (sym is.table) in
    let operators = c.in_ok-operators.ensures names differ has ∙ ap (λ (n : Named). map (operator names) (fixities_in n)) (sym is.is) ∙ ap (λ table. map (operator table) (fixities_in r.m)) (sym is.table) in
    λ j. record { name = name j; imports = imports j; operators = operators j }
