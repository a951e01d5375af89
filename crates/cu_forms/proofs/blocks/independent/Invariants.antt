use Rattle.std.proofs.Common.{◌≡◌, drop}
use Rattle.std.specs.List.{find}
use Rattle.cu_translation.specs.Blocks.{depends_on_none}
use Rattle.cu_translation.specs.Meaning.{Setting}
use Rattle.cu_forms.specs.Inside.Blocks.{bounds_meaning}
use Rattle.cu_forms.proofs.blocks.independent.Given as goal

abbrev pub invariant-loop-index : goal.invariant-loop-index
invariant-loop-index g l = (w : Setting) → g.A.Surroundings.tells l.around w
    → find (depends_on_none w.around.numbers.depends (bounds_meaning l.left)) (bounds_meaning (drop l.index l.left))
    ≡ find (depends_on_none w.around.numbers.depends (bounds_meaning l.left)) (bounds_meaning l.left)
