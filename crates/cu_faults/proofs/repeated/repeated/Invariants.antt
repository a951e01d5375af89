use Rattle.std.proofs.Common.{ℕ, List, [], drop}
use Rattle.std.specs.List.{All}
use Rattle.cu_names.specs.Texts.{AllDiffer}
use Rattle.cu_syntax.specs.Owners.{NameIsOf}
use Rattle.cu_translation.specs.Meaning.{Setting}
use Rattle.cu_uses.specs.Telling.{HasTexts}
use Rattle.cu_faults.specs.declared.first.First.{First}
use Rattle.cu_faults.specs.Inside.Patterns.{repeats}
use Rattle.cu_faults.specs.Telling.{Told}
use Rattle.cu_faults.proofs.repeated.repeated.Given as goal

-- what is left to tell gives all that is told
abbrev pub invariant-loop-name : goal.invariant-loop-name
invariant-loop-name l =
    (w : Setting) → AllDiffer w.names → All (NameIsOf w.owner w.names) l.names
    → (seen : List (List ℕ)) × HasTexts w.names seen l.seen
    × ((after : First) → Told w.owner l.first (repeats w.names seen (drop l.name-index l.names)) after → Told w.owner l.fn.first (repeats w.names [] l.names) after)
