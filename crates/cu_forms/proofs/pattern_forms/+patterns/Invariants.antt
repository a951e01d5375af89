use Rattle.std.proofs.Common.{◌≡◌, ◌+◌, ◌*◌, ◌++◌, drop, map}
use denote.Param.Weighed.{most}
use Rattle.std.specs.List.{All}
use Rattle.cu_fixity.specs.Owners.{PartIsOf, part_size}
use Rattle.cu_kernel.specs.TermsOf.{pattern_of}
use Rattle.cu_syntax.specs.Owners.{PatternIsOf}
use Rattle.cu_syntax.specs.Smaller.{pat_items_size, pattern_size}
use Rattle.cu_translation.specs.Meaning.{Setting}
use Rattle.cu_forms.specs.Forms.{binders_meaning, pattern_form}
use Rattle.cu_forms.specs.Inside.PatternParts.{item_meaning, part_item}
use Rattle.cu_forms.proofs.pattern_forms.+patterns.Given as goal

abbrev pub decreases-pattern : goal.decreases-pattern
decreases-pattern g l = 4 * pattern_size l.p

abbrev pub decreases-patterns : goal.decreases-patterns
decreases-patterns g l = 4 * most pattern_size l.ps.now + 1

abbrev pub decreases-operators : goal.decreases-operators
decreases-operators g l = 4 * pat_items_size l.items.now

abbrev pub decreases-parts : goal.decreases-parts
decreases-parts g l = 4 * most (part_size pattern_size) l.ordered.now + 2

abbrev pub decreases-part : goal.decreases-part
decreases-part g l = 4 * part_size pattern_size l.one + 1

abbrev pub invariant-patterns-loop-p : goal.invariant-patterns-loop-p
invariant-patterns-loop-p g l =
    (w : Setting) → g.A.Surroundings.tells l.around w → All (PatternIsOf w.owner w.names) l.ps
    → map pattern_of l.found.items ++ map (pattern_form w (binders_meaning l.binders)) (drop l.p-index l.ps) ≡ map (pattern_form w (binders_meaning l.binders)) l.ps

abbrev pub invariant-parts-loop-one : goal.invariant-parts-loop-one
invariant-parts-loop-one g l =
    (w : Setting) → g.A.Surroundings.tells l.around w → All (PartIsOf PatternIsOf w.owner w.names) l.ordered
    → map item_meaning l.found.items ++ map (part_item w (binders_meaning l.binders)) (drop l.one-index l.ordered) ≡ map (part_item w (binders_meaning l.binders)) l.ordered
