use Rattle.std.proofs.Common.{◌≡◌, vec_len}
use Rattle.cu_kernel.specs.LocalTermsOf.{local_term_of}
use Rattle.cu_translation.specs.Blocks.{with_lets}
use Rattle.cu_translation.specs.Meaning.{Setting}
use Rattle.cu_forms.specs.Inside.Blocks.{bounds_meaning}
use Rattle.cu_forms.proofs.blocks.with_lets.Given as goal

abbrev pub invariant-loop-bound : goal.invariant-loop-bound
invariant-loop-bound g l = (w : Setting) → g.A.Surroundings.tells l.around w
    → with_lets w.around (bounds_meaning l.left.items) (local_term_of l.inner) ≡ with_lets w.around (bounds_meaning l.fn.bounds.items) (local_term_of l.fn.term)

abbrev pub decreases-loop-bound : goal.decreases-loop-bound
decreases-loop-bound g l = vec_len l.left
