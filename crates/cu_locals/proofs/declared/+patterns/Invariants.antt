use Rattle.std.proofs.Common.{◌+◌, ◌*◌, drop}
use denote.Param.Weighed.{most}
use Rattle.std.specs.List.{All}
use Rattle.cu_syntax.specs.Owners.{ConstructorItemIsOf, PatternIsOf}
use Rattle.cu_syntax.specs.Smaller.{constructor_item_size, pattern_size}
use Rattle.cu_uses.specs.Gathered.{operands_bind, patterns_bind}
use Rattle.cu_locals.specs.declared.declared.Declared.{Declared}
use Rattle.cu_locals.specs.Text.{Text}
use Rattle.cu_locals.specs.Places.{Finds, operands_place, patterns_place}
use Rattle.cu_locals.proofs.declared.+patterns.Given as goal

abbrev pub decreases-pattern : goal.decreases-pattern
decreases-pattern l = 2 * pattern_size l.p

abbrev pub decreases-patterns : goal.decreases-patterns
decreases-patterns l = 2 * most pattern_size l.ps.now + 1

abbrev pub decreases-operands : goal.decreases-operands
decreases-operands l = 2 * most constructor_item_size l.items.now + 1

-- what is left to find gives all that is found
abbrev pub invariant-patterns-loop-p : goal.invariant-patterns-loop-p
invariant-patterns-loop-p l =
    (t : Text) (after : Declared) → All (PatternIsOf t.owner t.names) l.ps
    → Finds t l.found (patterns_bind t.names (drop l.p-index l.ps)) (patterns_place t.names (drop l.p-index l.ps)) after
    → Finds t l.fn.found (patterns_bind t.names l.ps) (patterns_place t.names l.ps) after

abbrev pub invariant-operands-loop-item : goal.invariant-operands-loop-item
invariant-operands-loop-item l =
    (t : Text) (after : Declared) → All (ConstructorItemIsOf t.owner t.names) l.items
    → Finds t l.found (operands_bind t.names (drop l.item-index l.items)) (operands_place t.names (drop l.item-index l.items)) after
    → Finds t l.fn.found (operands_bind t.names l.items) (operands_place t.names l.items) after
