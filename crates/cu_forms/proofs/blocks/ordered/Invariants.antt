use Rattle.std.proofs.Common.{◌≡◌, ◌++◌, ◌-◌, length}
use Rattle.cu_translation.specs.Blocks.{ordered}
use Rattle.cu_translation.specs.Meaning.{Setting}
use Rattle.cu_forms.specs.Inside.Blocks.{bounds_meaning}
use Rattle.cu_forms.proofs.BlockLemmas.{from_left}
use Rattle.cu_forms.proofs.blocks.ordered.Given as goal

abbrev pub invariant-loop-round : goal.invariant-loop-round
invariant-loop-round g l = (w : Setting) → g.A.Surroundings.tells l.around w
    → bounds_meaning l.ordered.items ++ from_left (length l.fn.bounds.items - l._round) w.around.numbers.depends l.left.items ≡ ordered w.around.numbers.depends (bounds_meaning l.fn.bounds.items)
