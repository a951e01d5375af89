use Rattle.std.proofs.Common.{◌≡◌, map, reverse, vec_len}
use Rattle.cu_kernel.specs.TermsOf.{pattern_of}
use Rattle.cu_forms.specs.Inside.PatternParts.{all_placed, item_meaning}
use Rattle.cu_forms.proofs.PatternLemmas.{placed_on}
use Rattle.cu_forms.proofs.pattern_parts.grouped_pattern.Given as goal

abbrev pub invariant-loop-item : goal.invariant-loop-item
invariant-loop-item l = placed_on (map item_meaning l.left.items) (map pattern_of (reverse l.stack.items)) ≡ all_placed (map item_meaning l.fn.items.items)

abbrev pub decreases-loop-item : goal.decreases-loop-item
decreases-loop-item l = vec_len l.left
