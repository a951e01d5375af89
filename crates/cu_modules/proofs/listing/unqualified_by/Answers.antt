use Rattle.cu_names.specs.Texts.{text_of}
use Rattle.cu_syntax.specs.Items.{import_meaning}
use Rattle.cu_modules.specs.Scopes.{exports_of, imported}
use Rattle.cu_modules.proofs.ListingLemmas.{not_open, open_told, same_items}
use Rattle.cu_modules.proofs.listing.unqualified_by.Goals as goal

pub returns-then-import : goal.returns-then-import
returns-then-import c = λ owner names mine before differ own is are.
    not_open names mine before (import_meaning names c.args.import.now) c.new.result.items c.if-import.true c.new.ensures.items

pub returns : goal.returns
returns c = λ owner names mine before differ own is are.
    let i = import_meaning names c.args.import.now in
    open_told names mine before i c.unhidden.result c.if-import.false
    (c.unhidden.ensures names mine (imported before i) is
    (same_items names (imported before i) c.in_ok-taken.taken.items c.as_slice.result.now c.as_slice.ensures.value
    (c.in_ok-taken.ensures owner names (exports_of before (text_of names c.args.import.now.name.text)) differ own.3 (c.of-exports.ensures names before own.1.text are))))
