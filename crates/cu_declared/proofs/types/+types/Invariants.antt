use Rattle.std.proofs.Common.{◌+◌, ◌*◌, ℕ, List, drop}
use denote.Param.Weighed.{most}
use Rattle.std.specs.List.{All}
use Rattle.cu_names.specs.declared.names.NameId.{NameId}
use Rattle.cu_syntax.specs.Owners.{TypeIsOf}
use Rattle.cu_syntax.specs.Smaller.{type_size}
use Rattle.cu_declared.specs.declared.found.TypeUse.{TypeUse}
use Rattle.cu_declared.specs.Inside.Gathered.{Adds, in_types}
use Rattle.cu_declared.proofs.types.+types.Given as goal

abbrev pub decreases-type_term : goal.decreases-type_term
decreases-type_term l = 2 * type_size l.t

abbrev pub decreases-types : goal.decreases-types
decreases-types l = 2 * most type_size l.ts.now + 1

abbrev pub invariant-types-loop-t : goal.invariant-types-loop-t
invariant-types-loop-t l =
    (owner : NameId) (names : List (List ℕ)) (after : List TypeUse) → All (TypeIsOf owner names) l.ts
    → Adds owner names l.found.items (in_types names (drop l.t-index l.ts)) after → Adds owner names l.fn.found.items (in_types names l.ts) after
