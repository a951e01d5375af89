use Rattle.std.proofs.Common.{◌≡◌, vec_len}
use Rattle.cu_kernel.specs.LocalTermsOf.{local_term_of}
use Rattle.cu_translation.specs.Meaning.{Setting}
use Rattle.cu_forms.specs.Inside.Blocks.{layers_around}
use Rattle.cu_forms.proofs.layers.around_rest.Given as goal

abbrev pub invariant-loop-layer : goal.invariant-loop-layer
invariant-loop-layer g l = (w : Setting) → g.A.Surroundings.tells l.around w
    → layers_around w l.left.items (local_term_of l.inner) ≡ layers_around w l.fn.layers.items (local_term_of l.fn.rest)

abbrev pub decreases-loop-layer : goal.decreases-loop-layer
decreases-loop-layer g l = vec_len l.left
