use Rattle.std.proofs.Common.{List, Option, subst, sym}
use Rattle.std.specs.List.{All}
use Rattle.std.specs.Prelude.{IfSome}
use Rattle.cu_names.specs.Texts.{text_of}
use Rattle.cu_syntax.specs.declared.items.Entity.{Entity}
use Rattle.cu_syntax.specs.declared.items.ImportList.{ImportList}
use Rattle.cu_syntax.specs.Items.{import_meaning}
use Rattle.cu_syntax.specs.Owners.{EntityIsOf, ImportListIsOf}
use Rattle.cu_modules.specs.Faults.{import_faults}
use Rattle.cu_modules.specs.Scopes.{exports_of}
use Rattle.cu_modules.proofs.ImportFaultLemmas.{list_told, no_list}
use Rattle.cu_modules.proofs.ToldLemmas.{told_nothing}
use Rattle.cu_modules.proofs.import_faults.tell_import.Goals as goal

pub returns-in-Some : goal.returns-in-Some
returns-in-Some c = λ owner names before differ own are.
    let i = c.args.import.now in
    let list = c.in-Some.list in
    let exports = exports_of before (text_of names i.name.text) in
    let owned : ImportListIsOf owner names list = subst (λ (o : Option ImportList). IfSome o (ImportListIsOf owner names)) c.in-Some.is own.3 in
    list_told owner names exports i.list list c.as_slice.result.now c.tell_entries.result c.args.first.now c.tell_entries.new.first c.in-Some.is c.as_slice.ensures.value
    (c.tell_entries.ensures owner names exports differ (subst (λ (xs : List Entity). All (EntityIsOf owner names) xs) (sym c.as_slice.ensures.value) owned)
    (c.of-exports.ensures names before own.1.text are))

pub returns-in-None : goal.returns-in-None
returns-in-None c = λ owner names before differ own are.
    let i = c.args.import.now in
    told_nothing owner names c.args.first.now (import_faults before (import_meaning names i)) (no_list names (exports_of before (text_of names i.name.text)) i.list c.in-None.is)
