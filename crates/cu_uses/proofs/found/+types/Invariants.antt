use Rattle.std.proofs.Common.{◌+◌, ◌*◌, ℕ, List, drop}
use denote.Param.Weighed.{most}
use Rattle.std.specs.List.{All}
use Rattle.cu_names.specs.declared.names.NameId.{NameId}
use Rattle.cu_syntax.specs.Owners.{TypeIsOf}
use Rattle.cu_syntax.specs.Smaller.{type_size}
use Rattle.cu_uses.specs.declared.found.Found.{Found}
use Rattle.cu_uses.specs.Gathered.{Finds, types_bind, types_build}
use Rattle.cu_uses.proofs.found.+types.Given as goal

abbrev pub decreases-type_term : goal.decreases-type_term
decreases-type_term l = 2 * type_size l.t

abbrev pub decreases-types : goal.decreases-types
decreases-types l = 2 * most type_size l.ts.now + 1

abbrev pub invariant-types-loop-t : goal.invariant-types-loop-t
invariant-types-loop-t l =
    (owner : NameId) (names : List (List ℕ)) (after : Found) → All (TypeIsOf owner names) l.ts
    → Finds owner names l.found (types_bind names (drop l.t-index l.ts)) (types_build names (drop l.t-index l.ts)) after
    → Finds owner names l.fn.found (types_bind names l.ts) (types_build names l.ts) after
