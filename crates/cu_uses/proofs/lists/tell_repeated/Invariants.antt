use Rattle.std.proofs.Common.{ℕ, List, [], drop, map}
use Rattle.std.specs.List.{All}
use Rattle.cu_names.specs.Texts.{AllDiffer}
use Rattle.cu_syntax.specs.Owners.{NameIsOf}
use Rattle.cu_uses.specs.declared.first_fault.FirstFault.{FirstFault}
use Rattle.cu_uses.specs.Binders.{repeated}
use Rattle.cu_uses.specs.Demands.{Repeats}
use Rattle.cu_uses.specs.Gathered.{names_meaning}
use Rattle.cu_uses.specs.Inside.Worlds.{Told, World}
use Rattle.cu_uses.specs.Telling.{HasTexts}
use Rattle.cu_uses.proofs.lists.tell_repeated.Given as goal

abbrev pub invariant-loop-name : goal.invariant-loop-name
invariant-loop-name l =
    (w : World) → AllDiffer w.names → All (NameIsOf w.owner w.names) l.names
    → (seen : List (List ℕ)) × HasTexts w.names seen l.seen × ((after : FirstFault) → Told w l.first (map Repeats (repeated seen (names_meaning w.names (drop l.name-index l.names)))) after
    → Told w l.fn.first (map Repeats (repeated [] (names_meaning w.names l.names))) after)
