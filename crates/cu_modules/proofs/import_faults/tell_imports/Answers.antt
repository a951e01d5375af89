use Rattle.cu_syntax.specs.Items.{import_meaning}
use Rattle.cu_syntax.specs.Owners.{ImportIsOf}
use Rattle.cu_modules.specs.Faults.{import_faults}
use Rattle.cu_modules.proofs.ToldLemmas.{at_index, told_more, told_none, told_whole}
use Rattle.cu_modules.proofs.import_faults.tell_imports.Goals as goal

pub imports-init : goal.imports-init
imports-init c = λ owner names before differ owned are. told_none owner names c.args.first.now

pub imports-preserved : goal.imports-preserved
imports-preserved c = λ owner names before differ owned are.
    let xs = c.args.imports.now in
    let i = c.imports.import-index in
    let x = c.import-item.result in
    told_more owner names (import_faults before) (import_meaning names) xs i x x c.args.first.now c.imports.first c.tell_import.new.first c.imports-test.true c.import-item.is
    (c.in_ok-tell_import.ensures owner names before differ (at_index (ImportIsOf owner names) xs i x c.imports-test.true c.import-item.is owned) are) (c.imports.invariant owner names before differ owned are)

pub returns : goal.returns
returns c = λ owner names before imported differ imports are.
    told_whole owner names (import_faults before) (import_meaning names) c.args.imports.now c.imports.import-index imported c.args.first.now c.imports.first c.imports-test.false imports.are
    (c.imports.invariant owner names before differ imports.owned are)
