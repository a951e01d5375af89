use Rattle.std.proofs.Common.{ℕ, List, drop}
use Rattle.std.specs.List.{All}
use Rattle.cu_names.specs.declared.names.NameId.{NameId}
use Rattle.cu_syntax.specs.Owners.{ItemIsOf}
use Rattle.cu_declared.specs.declared.found.TypeUse.{TypeUse}
use Rattle.cu_declared.specs.Inside.Gathered.{Adds}
use Rattle.cu_declared.specs.Inside.Items.{in_items}
use Rattle.cu_declared.proofs.items.items_uses.Given as goal

abbrev pub invariant-loop-item : goal.invariant-loop-item
invariant-loop-item l =
    (owner : NameId) (names : List (List ℕ)) (after : List TypeUse) → All (ItemIsOf owner names) l.items
    → Adds owner names l.found.items (in_items names (drop l.item-index l.items)) after → Adds owner names l.fn.found.items (in_items names l.items) after
