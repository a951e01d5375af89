use Rattle.std.proofs.Common.{◌≡◌, map, vec_len}
use Rattle.cu_kernel.specs.LocalTermsOf.{local_term_of}
use Rattle.cu_translation.specs.Meaning.{Setting}
use Rattle.cu_forms.specs.Inside.Lists.{before_list, list_term}
use Rattle.cu_forms.proofs.lists.list.Given as goal

abbrev pub invariant-loop-element : goal.invariant-loop-element
invariant-loop-element g l = (w : Setting) → g.A.Surroundings.tells l.around w
    → before_list w.around.names (map local_term_of l.elements.items) (local_term_of l.list) ≡ list_term w.around.names (map local_term_of l.fn.terms.items)

abbrev pub decreases-loop-element : goal.decreases-loop-element
decreases-loop-element g l = vec_len l.elements
