use Rattle.cu_modules.specs.Ordering.{module_of}
use Rattle.cu_modules.specs.Walk.{import_names}
use Rattle.cu_modules.proofs.ImportLemmas.{as_written, same_list, says_so, with_prelude}
use Rattle.cu_modules.proofs.imports.import_names.Goals as goal

pub returns-then-says_so : goal.returns-then-says_so
returns-then-says_so c = λ names differ has_module has.
    let m = c.args.module.now in
    let found = c.in_ok-written.ensures names has_module in
    let ids = c.in_ok-written.written.items in
    let told = says_so names m c.args.prelude ids c.as_slice.result.now c.says_so.result differ has_module has found c.as_slice.ensures.value c.says_so.ensures in
    as_written names m ids c.says_so.result c.if-says_so.true told found

pub returns : goal.returns
returns c = λ names differ has_module has.
    let m = c.args.module.now in
    let found = c.in_ok-written.ensures names has_module in
    let ids = c.in_ok-written.written.items in
    let told = says_so names m c.args.prelude ids c.as_slice.result.now c.says_so.result differ has_module has found c.as_slice.ensures.value c.says_so.ensures in
    same_list names (import_names (module_of names m)) c.args.prelude ids c.as_slice-2.result.now c.in_ok-names.names.items c.extend_from_slice.new.self.items c.as_slice-2.ensures.value c.in_ok-names.ensures.items c.in_ok-extend_from_slice.ensures.items
    (with_prelude names m c.args.prelude ids c.says_so.result c.if-says_so.false told has found)
