use Rattle.std.proofs.Common.{◌∙◌, ap, subst, sym}
use Rattle.cu_syntax.specs.Answer.{item_meaning}
use Rattle.cu_syntax.specs.Items.{item_node}
use Rattle.cu_syntax.specs.Owners.{ItemNodeIsOf}
use Rattle.cu_modules.proofs.ImportedLemmas.{one_import}
use Rattle.cu_modules.proofs.importing.import_of.Goals as goal

pub returns-in-Import : goal.returns-in-Import
returns-in-Import c = λ owner names owned.
    one_import owner names (item_meaning names c.args.item.now) c.in-Import.import
    (sym (c.in_ok-import.ensures.meaning names) ∙ ap (item_node names) c.in-Import.is) (subst (ItemNodeIsOf owner names) c.in-Import.is (c.in_ok-import.ensures.owned owner names owned))
