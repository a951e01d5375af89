use Rattle.std.proofs.Common.{◌+◌, ◌*◌, ℕ, List, drop}
use denote.Param.Weighed.{most}
use Rattle.std.specs.List.{All}
use Rattle.cu_names.specs.declared.names.NameId.{NameId}
use Rattle.cu_syntax.specs.Owners.{ConstructorItemIsOf, PatternIsOf}
use Rattle.cu_syntax.specs.Smaller.{constructor_item_size, pattern_size}
use Rattle.cu_uses.specs.declared.found.Found.{Found}
use Rattle.cu_uses.specs.Gathered.{Finds, operands_bind, operands_build, patterns_bind, patterns_build}
use Rattle.cu_uses.proofs.found.+patterns.Given as goal

abbrev pub decreases-pattern : goal.decreases-pattern
decreases-pattern l = 2 * pattern_size l.p

abbrev pub decreases-patterns : goal.decreases-patterns
decreases-patterns l = 2 * most pattern_size l.ps.now + 1

abbrev pub decreases-operands : goal.decreases-operands
decreases-operands l = 2 * most constructor_item_size l.items.now + 1

-- what is left to find gives all that is found
abbrev pub invariant-patterns-loop-p : goal.invariant-patterns-loop-p
invariant-patterns-loop-p l =
    (owner : NameId) (names : List (List ℕ)) (after : Found) → All (PatternIsOf owner names) l.ps
    → Finds owner names l.found (patterns_bind names (drop l.p-index l.ps)) (patterns_build names (drop l.p-index l.ps)) after
    → Finds owner names l.fn.found (patterns_bind names l.ps) (patterns_build names l.ps) after

abbrev pub invariant-operands-loop-item : goal.invariant-operands-loop-item
invariant-operands-loop-item l =
    (owner : NameId) (names : List (List ℕ)) (after : Found) → All (ConstructorItemIsOf owner names) l.items
    → Finds owner names l.found (operands_bind names (drop l.item-index l.items)) (operands_build names (drop l.item-index l.items)) after
    → Finds owner names l.fn.found (operands_bind names l.items) (operands_build names l.items) after
