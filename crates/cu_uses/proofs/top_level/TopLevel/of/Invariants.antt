use Rattle.std.proofs.Common.{ℕ, List, drop}
use Rattle.std.specs.List.{All}
use Rattle.cu_names.specs.Texts.{AllDiffer}
use Rattle.cu_names.specs.declared.names.NameId.{NameId}
use Rattle.cu_syntax.specs.Owners.{ItemIsOf}
use Rattle.cu_uses.specs.declared.top_level.TopLevel.{TopLevel}
use Rattle.cu_uses.specs.Inside.Tops.{Reads, items_top}
use Rattle.cu_uses.proofs.top_level.TopLevel.of.Given as goal

abbrev pub invariant-loop-item : goal.invariant-loop-item
invariant-loop-item l =
    (owner : NameId) (names : List (List ℕ)) (after : TopLevel) → AllDiffer names → All (ItemIsOf owner names) l.items
    → Reads owner names l.declared (items_top names (drop l.item-index l.items)) after → Reads owner names l.initial.declared (items_top names l.items) after
