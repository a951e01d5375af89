use Rattle.std.proofs.Common.{List, drop}
use Rattle.std.specs.List.{All}
use Rattle.cu_syntax.specs.Owners.{OperatorItemIsOf}
use Rattle.cu_translation.specs.declared.local_names.Local.{Local}
use Rattle.cu_translation.specs.LocalNames.{Scope}
use Rattle.cu_locals.specs.Text.{Text}
use Rattle.cu_sites.specs.Meaning.{IsScope}
use Rattle.cu_sites.specs.Inside.Using.{Finds, operators_mean}
use Rattle.cu_sites.proofs.sites.Sites.push_operators.Given as goal

abbrev pub invariant-loop-item : goal.invariant-loop-item
invariant-loop-item l =
    (t : Text) (names : Scope) (end : List Local) → IsScope t l.self.entries.items l.scope names → All (OperatorItemIsOf t.owner t.names) l.items
    → Finds l.found.items (operators_mean t.names names (drop l.item-index l.items)) end → Finds l.fn.found.items (operators_mean t.names names l.items) end
