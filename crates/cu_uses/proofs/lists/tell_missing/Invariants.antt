use Rattle.std.proofs.Common.{ℕ, List, drop, map}
use Rattle.std.specs.List.{All}
use Rattle.cu_syntax.specs.Owners.{NameIsOf}
use Rattle.cu_uses.specs.declared.first_fault.FirstFault.{FirstFault}
use Rattle.cu_uses.specs.Binders.{missing}
use Rattle.cu_uses.specs.Demands.{Lacks}
use Rattle.cu_uses.specs.Gathered.{names_meaning}
use Rattle.cu_uses.specs.Inside.Worlds.{Told, World}
use Rattle.cu_uses.specs.Telling.{HasTexts}
use Rattle.cu_uses.proofs.lists.tell_missing.Given as goal

abbrev pub invariant-loop-name : goal.invariant-loop-name
invariant-loop-name l =
    (w : World) (texts : List (List ℕ)) (after : FirstFault) → HasTexts w.names texts l.known → All (NameIsOf w.owner w.names) l.names
    → Told w l.first (map Lacks (missing texts (names_meaning w.names (drop l.name-index l.names)))) after
    → Told w l.fn.first (map Lacks (missing texts (names_meaning w.names l.names))) after
