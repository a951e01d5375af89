use Rattle.std.proofs.Common.{ℕ, List, drop}
use Rattle.std.specs.List.{All}
use Rattle.cu_names.specs.Texts.{AllDiffer, IsKnown, text_of}
use Rattle.cu_syntax.specs.Owners.{ItemIsOf}
use Rattle.cu_declared.specs.declared.numbers.Numbers.{Numbers}
use Rattle.cu_declared.specs.Inside.Items.{items_parameters}
use Rattle.cu_declared.specs.Inside.Numbers.{Gains}
use Rattle.cu_declared.proofs.items.add_parameters.Given as goal

abbrev pub invariant-loop-item : goal.invariant-loop-item
invariant-loop-item l =
    (names : List (List ℕ)) (after : Numbers) → AllDiffer names → IsKnown names l.owner → All (ItemIsOf l.owner names) l.items
    → Gains names l.numbers (items_parameters names (text_of names l.owner) (drop l.item-index l.items)) after
    → Gains names l.fn.numbers (items_parameters names (text_of names l.owner) l.items) after
