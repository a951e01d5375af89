use Rattle.std.proofs.Common.{Option, subst, sym}
use Rattle.std.specs.Option.{option_map}
use Rattle.std.specs.Prelude.{IfOk, IfSome}
use Rattle.cu_syntax.specs.declared.items.ImportList.{ImportList}
use Rattle.cu_syntax.specs.Items.{import_list_meaning}
use Rattle.cu_syntax.specs.Owners.{ImportListIsOf}
use Rattle.cu_modules.specs.Known.{AreEntities}
use Rattle.cu_modules.specs.Scopes.{taken}
use Rattle.cu_modules.proofs.lists.taken.Goals as goal

pub returns-in-Some : goal.returns-in-Some
returns-in-Some c = λ owner names exported differ own are.
    subst (λ (o : Option ImportList). IfOk c.chosen.result (λ found. AreEntities names (taken (option_map (import_list_meaning names) o) exported) found.items)) (sym c.in-Some.is)
    (c.chosen.ensures owner names exported differ (subst (λ (o : Option ImportList). IfSome o (ImportListIsOf owner names)) c.in-Some.is own) are)
