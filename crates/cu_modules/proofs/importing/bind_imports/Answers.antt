use Rattle.cu_modules.proofs.BroughtLemmas.{all_bound, import_more}
use Rattle.cu_modules.proofs.importing.bind_imports.Goals as goal

pub imports-preserved : goal.imports-preserved
imports-preserved c = λ owner names mine before bindings differ owned is are has.
    import_more owner names bindings mine before c.args.imports.now c.imports.import-index c.import-item.result c.imports.scope c.bind_import.new.scope c.imports-test.true c.import-item.is owned
    (λ bs own there. c.in_ok-bind_import.ensures owner names mine before bs differ own is are there) (c.imports.invariant owner names mine before bindings differ owned is are has)

pub returns : goal.returns
returns c = λ owner names mine before bindings imported differ imports is are has.
    all_bound owner names bindings mine before c.args.imports.now imported c.imports.import-index c.imports.scope c.imports-test.false imports
    (c.imports.invariant owner names mine before bindings differ imports.owned is are has)
