use Rattle.std.proofs.Common.{◌≡◌, take}
use Rattle.cu_kernel.specs.LocalTermsOf.{local_term_of}
use Rattle.cu_translation.specs.Blocks.{with_free}
use Rattle.cu_translation.specs.Meaning.{Setting}
use Rattle.cu_uses.specs.Gathered.{names_meaning}
use Rattle.cu_forms.specs.Inside.Blocks.{with_free_names}
use Rattle.cu_forms.proofs.blocks.with_free.Given as goal

abbrev pub invariant-loop-index : goal.invariant-loop-index
invariant-loop-index g l = (w : Setting) → g.A.Surroundings.tells l.around w
    → with_free w.around (names_meaning w.names (take l.index l.free)) (local_term_of l.inner) ≡ with_free_names w l.free (local_term_of l.fn.term)
