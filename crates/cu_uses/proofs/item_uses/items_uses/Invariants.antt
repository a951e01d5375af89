use Rattle.std.proofs.Common.{[], List, drop}
use Rattle.std.specs.List.{All}
use Rattle.cu_syntax.specs.Owners.{ItemIsOf}
use Rattle.cu_uses.specs.declared.first_fault.FirstFault.{FirstFault}
use Rattle.cu_uses.specs.Inside.Scopes.{Sees}
use Rattle.cu_uses.specs.Inside.Tops.{items_ask}
use Rattle.cu_uses.specs.Inside.Worlds.{Told, World}
use Rattle.cu_uses.proofs.item_uses.items_uses.Given as goal

abbrev pub invariant-loop-item : goal.invariant-loop-item
invariant-loop-item l =
    (w : World) (after : FirstFault) → Sees w [] l.scope → All (ItemIsOf w.owner w.names) l.items
    → Told w l.first (items_ask w.names (drop l.item-index l.items)) after → Told w l.fn.first (items_ask w.names l.items) after
