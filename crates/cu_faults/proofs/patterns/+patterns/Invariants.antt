use Rattle.std.proofs.Common.{◌+◌, ◌*◌, drop}
use denote.Param.Weighed.{most}
use Rattle.std.specs.List.{All}
use Rattle.cu_syntax.specs.Owners.{ConstructorItemIsOf, PatternIsOf}
use Rattle.cu_syntax.specs.Smaller.{constructor_item_size, pattern_size}
use Rattle.cu_translation.specs.Meaning.{Setting}
use Rattle.cu_faults.specs.declared.first.First.{First}
use Rattle.cu_faults.specs.Inside.Patterns.{operands_told, patterns_told}
use Rattle.cu_faults.specs.Telling.{Told}
use Rattle.cu_faults.proofs.patterns.+patterns.Given as goal

abbrev pub decreases-pattern : goal.decreases-pattern
decreases-pattern g l = 2 * pattern_size l.p

abbrev pub decreases-patterns : goal.decreases-patterns
decreases-patterns g l = 2 * most pattern_size l.ps.now + 1

abbrev pub decreases-operands : goal.decreases-operands
decreases-operands g l = 2 * most constructor_item_size l.items.now + 1

-- what is left to tell gives all that is told
abbrev pub invariant-patterns-loop-p : goal.invariant-patterns-loop-p
invariant-patterns-loop-p g l =
    (w : Setting) (after : First) → g.A.Surroundings.tells l.around w → All (PatternIsOf w.owner w.names) l.ps
    → Told w.owner l.first (patterns_told l.sought w (drop l.p-index l.ps)) after
    → Told w.owner l.fn.first (patterns_told l.sought w l.ps) after

abbrev pub invariant-operands-loop-item : goal.invariant-operands-loop-item
invariant-operands-loop-item g l =
    (w : Setting) (after : First) → g.A.Surroundings.tells l.around w → All (ConstructorItemIsOf w.owner w.names) l.items
    → Told w.owner l.first (operands_told l.sought w (drop l.item-index l.items)) after
    → Told w.owner l.fn.first (operands_told l.sought w l.items) after
