use Rattle.cu_modules.proofs.ImportLemmas.{an_import}
use Rattle.cu_modules.proofs.imports.imported.Goals as goal

pub returns-in-Import : goal.returns-in-Import
returns-in-Import c = λ owner names owned.
    an_import owner names c.args.item.now c.in_ok-import.field-0 c.in-Import.import c.in-Import.is (c.in_ok-import.ensures.meaning names) (c.in_ok-import.ensures.owned owner names owned)
