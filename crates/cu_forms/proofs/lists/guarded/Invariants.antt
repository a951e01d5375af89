use Rattle.std.proofs.Common.{◌≡◌, map, vec_len}
use Rattle.cu_kernel.specs.LocalTermsOf.{local_term_of}
use Rattle.cu_translation.specs.Meaning.{Setting}
use Rattle.cu_forms.specs.Inside.Blocks.{before_guards, guard_meaning, guards_term}
use Rattle.cu_forms.proofs.lists.guarded.Given as goal

abbrev pub invariant-loop-row : goal.invariant-loop-row
invariant-loop-row g l = (w : Setting) → g.A.Surroundings.tells l.around w
    → before_guards w.around.names (map guard_meaning l.left.items) (local_term_of l.other) ≡ guards_term w.around.names (map guard_meaning l.fn.rows.items)

abbrev pub decreases-loop-row : goal.decreases-loop-row
decreases-loop-row g l = vec_len l.left
