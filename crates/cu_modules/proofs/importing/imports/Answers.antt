use Rattle.std.proofs.Common.{◌∙◌, ◌++◌, ◌∷◌, [], List, ap, subst, sym}
use Rattle.cu_names.proofs.Growth.{known_at, text_of-at}
use Rattle.cu_syntax.specs.declared.items.Import.{Import}
use Rattle.cu_modules.specs.BuiltInEntities.{prelude_name}
use Rattle.cu_modules.specs.Inside.Imported.{AreImportsOf}
use Rattle.cu_modules.specs.Scopes.{prelude_import}
use Rattle.cu_modules.proofs.ImportedLemmas.{after_prelude, no_imports, written_alone}
use Rattle.cu_modules.proofs.ImportLemmas.{says_so}
use Rattle.cu_modules.proofs.importing.imports.Goals as goal

pub returns-then-says_so : goal.returns-then-says_so
returns-then-says_so c = λ differ.
    let names = c.args.names.now in
    let m = c.args.module.now in
    let id = c.found-prelude.result in
    let told = says_so names m id c.in_ok-written.written.items c.as_slice.result.now c.says_so.result differ c.requires.has
    (record { known = known_at names id prelude_name c.found-prelude.ensures; text = text_of-at names id prelude_name c.found-prelude.ensures })
    (c.in_ok-written.ensures names c.requires.has) c.as_slice.ensures.value c.says_so.ensures in
    written_alone names m c.add_imports.new.imports.items c.says_so.result c.if-says_so.true told
    (c.in_ok-add_imports.ensures names [] c.requires.has (no_imports m.name names c.new-imports.result.items c.new-imports.ensures.items))

pub returns : goal.returns
returns c = λ differ.
    let names = c.args.names.now in
    let m = c.args.module.now in
    let id = c.found-prelude.result in
    let text = text_of-at names id prelude_name c.found-prelude.ensures in
    let known = known_at names id prelude_name c.found-prelude.ensures in
    let told = says_so names m id c.in_ok-written.written.items c.as_slice.result.now c.says_so.result differ c.requires.has (record { known = known; text = text })
    (c.in_ok-written.ensures names c.requires.has) c.as_slice.ensures.value c.says_so.ensures in
    after_prelude names m c.add_imports-2.new.imports.items c.says_so.result c.if-says_so.false told
    (c.in_ok-add_imports-2.ensures names (prelude_import ∷ []) c.requires.has
    (subst (λ (found : List Import). AreImportsOf m.name names (prelude_import ∷ []) found)
    (sym (c.in_ok-push.ensures.items ∙ ap (λ old. old ++ c.prelude_import.result ∷ []) c.new-imports.ensures.items)) (c.prelude_import.ensures names known text)))
