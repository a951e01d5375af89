use Rattle.std.proofs.Common.{◌≡◌, drop}
use Rattle.std.specs.List.{list_any}
use Rattle.cu_translation.specs.Meaning.{Setting, binder_meaning}
use Rattle.cu_forms.specs.Inside.Blocks.{bounds_meaning}
use Rattle.cu_forms.proofs.blocks.depends_on_none.Given as goal

abbrev pub invariant-loop-other : goal.invariant-loop-other
invariant-loop-other g l = (w : Setting) → g.A.Surroundings.tells l.around w
    → list_any (λ b. w.around.numbers.depends (binder_meaning l.variable) b.variable) (bounds_meaning (drop l.other-index l.left))
    ≡ list_any (λ b. w.around.numbers.depends (binder_meaning l.variable) b.variable) (bounds_meaning l.left)
