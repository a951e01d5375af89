use Rattle.std.proofs.Common.{true, false}
use Rattle.cu_names.specs.Texts.{text_of}
use Rattle.cu_syntax.specs.Items.{import_meaning}
use Rattle.cu_modules.specs.Scopes.{names_module, unqualified}
use Rattle.cu_modules.proofs.ListingLemmas.{every_flat, import_owned, kept_flat, none_flat, of_name}
use Rattle.cu_modules.proofs.listing.module_exports.Goals as goal

pub imports-preserved-then-not-is_of : goal.imports-preserved-then-not-is_of
imports-preserved-then-not-is_of c = λ owner names mine before differ known owned is are.
    let x = c.import-item.result in
    let own = import_owned owner names c.args.imports.now c.imports.import-index x c.imports-test.true c.import-item.is owned in
    none_flat names (unqualified mine before) (names_module (text_of names c.args.name)) (import_meaning names) c.args.imports.now c.imports.import-index x c.imports.all.items c.imports-test.true c.import-item.is
    (of_name names x c.args.name c.is_of.result false c.is_of.ensures c.if-not-is_of.true differ own.1.text known) (c.imports.invariant owner names mine before differ known owned is are)

pub imports-preserved : goal.imports-preserved
imports-preserved c = λ owner names mine before differ known owned is are.
    let x = c.import-item.result in
    let own = import_owned owner names c.args.imports.now c.imports.import-index x c.imports-test.true c.import-item.is owned in
    kept_flat names (unqualified mine before) (names_module (text_of names c.args.name)) (import_meaning names) c.args.imports.now c.imports.import-index x c.imports.all.items c.as_slice.result.now c.in_ok-more.more.items
    c.extend_from_slice.new.self.items c.imports-test.true c.import-item.is
    (of_name names x c.args.name c.is_of.result true c.is_of.ensures c.if-not-is_of.false differ own.1.text known) c.as_slice.ensures.value c.in_ok-extend_from_slice.ensures.items
    (c.in_ok-more.ensures owner names mine before differ own is are) (c.imports.invariant owner names mine before differ known owned is are)

pub returns : goal.returns
returns c = λ owner names mine before imported differ known imports is are.
    every_flat names (unqualified mine before) (names_module (text_of names c.args.name)) (import_meaning names) c.args.imports.now c.imports.import-index imported c.imports.all.items c.imports-test.false imports.are
    (c.imports.invariant owner names mine before differ known imports.owned is are)
