use Rattle.std.proofs.Common.{◌≡◌, ◌+◌, ◌*◌, ℕ, List, map, take}
use denote.Param.Weighed.{most}
use Rattle.std.specs.List.{All}
use Rattle.cu_kernel.specs.TypesOf as code
use Rattle.cu_names.specs.declared.names.NameId.{NameId}
use Rattle.cu_syntax.specs.Owners.{NameIsOf, TypeIsOf}
use Rattle.cu_syntax.specs.Smaller.{type_size}
use Rattle.cu_toplevel.specs.Surrounding.{TellsNames}
use Rattle.cu_translation.specs.Around.{Names}
use Rattle.cu_toplevel.proofs.TypeLemmas.{meant_type}
use Rattle.cu_toplevel.proofs.types.+types.Given as goal

abbrev pub decreases-type_of : goal.decreases-type_of
decreases-type_of l = 2 * type_size l.t

abbrev pub decreases-types_of : goal.decreases-types_of
decreases-types_of l = 2 * most type_size l.ts.now + 1

abbrev pub invariant-types_of-types : goal.invariant-types_of-types
invariant-types_of-types l = (owner : NameId) (names : List (List ℕ)) (around : Names) → TellsNames names around l.top → All (NameIsOf owner names) l.variables → All (TypeIsOf owner names) l.ts
    → map code.type_of l.types.items ≡ map (meant_type names around l.variables) (take l.t-index l.ts)
