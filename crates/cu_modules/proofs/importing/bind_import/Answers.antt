use Rattle.std.proofs.Common.{List, subst, sym}
use Rattle.cu_entities.specs.declared.entities.Entity.{Entity}
use Rattle.cu_names.specs.Texts.{text_of}
use Rattle.cu_syntax.specs.Items.{import_meaning}
use Rattle.cu_modules.specs.Known.{AreEntities}
use Rattle.cu_modules.specs.Scopes.{exports_of, imported}
use Rattle.cu_modules.proofs.BroughtLemmas.{brought_also, brought_after, slice_known}
use Rattle.cu_modules.proofs.importing.bind_import.Goals as goal

pub returns-then-import : goal.returns-then-import
returns-then-import c = λ owner names mine before bindings differ own is are has.
    let i = import_meaning names c.args.import.now in
    let taken = c.in_ok-taken.ensures owner names (exports_of before (text_of names c.args.import.now.name.text)) differ own.3 (c.of-exports.ensures names before own.1.text are) in
    brought_after names bindings mine before i c.qualifier_of.result c.as_slice.result.now c.in_ok-taken.taken.items c.bind_all.new.self c.if-import.true (c.qualifier_of.ensures.text names)
    c.as_slice.ensures.value taken
    (c.in_ok-bind_all.ensures names bindings differ (c.qualifier_of.ensures.known owner names own) (slice_known names (imported before i) c.as_slice.result.now c.in_ok-taken.taken.items c.as_slice.ensures.value taken) has)

pub returns : goal.returns
returns c = λ owner names mine before bindings differ own is are has.
    let i = import_meaning names c.args.import.now in
    let items = c.in_ok-taken.taken.items in
    let taken = c.in_ok-taken.ensures owner names (exports_of before (text_of names c.args.import.now.name.text)) differ own.3 (c.of-exports.ensures names before own.1.text are) in
    let sliced = subst (λ (es : List Entity). AreEntities names (imported before i) es) (sym c.as_slice-2.ensures.value) taken in
    brought_also names bindings mine before i c.qualifier_of.result c.as_slice.result.now items c.as_slice-3.result.now c.in_ok-visible.visible.items c.bind_all.new.self c.bind_all-2.new.self
    c.bind_all-2.result c.if-import.false (c.qualifier_of.ensures.text names) c.as_slice.ensures.value taken
    (c.in_ok-bind_all.ensures names bindings differ (c.qualifier_of.ensures.known owner names own) (slice_known names (imported before i) c.as_slice.result.now items c.as_slice.ensures.value taken) has)
    c.as_slice-3.ensures.value (c.in_ok-visible.ensures names mine (imported before i) is sliced)
    (λ bs known there. c.bind_all-2.ensures names bs differ tt known there)
