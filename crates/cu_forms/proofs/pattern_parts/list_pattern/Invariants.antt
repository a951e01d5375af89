use Rattle.std.proofs.Common.{◌≡◌, map, vec_len}
use Rattle.cu_kernel.specs.TermsOf.{pattern_of}
use Rattle.cu_translation.specs.Meaning.{Setting}
use Rattle.cu_forms.specs.Inside.PatternParts.{before_form, list_form}
use Rattle.cu_forms.proofs.pattern_parts.list_pattern.Given as goal

abbrev pub invariant-loop-element : goal.invariant-loop-element
invariant-loop-element g l = (w : Setting) → g.A.Surroundings.tells l.around w
    → before_form w.around.names (map pattern_of l.elements.items) (pattern_of l.list) ≡ list_form w.around.names (map pattern_of l.fn.patterns.items)

abbrev pub decreases-loop-element : goal.decreases-loop-element
decreases-loop-element g l = vec_len l.elements
