use Rattle.std.proofs.Common.{◌+◌, ◌*◌, ℕ, List, take}
use denote.Param.Weighed.{most}
use Rattle.std.specs.List.{All}
use Rattle.cu_names.specs.declared.names.NameId.{NameId}
use Rattle.cu_names.specs.Texts.{AllDiffer}
use Rattle.cu_syntax.specs.Owners.{TypeIsOf}
use Rattle.cu_syntax.specs.Smaller.{type_size}
use Rattle.cu_toplevel.specs.Inside.Variables.{AddsOnce}
use Rattle.cu_toplevel.proofs.SignatureLemmas.{variables_of}
use Rattle.cu_toplevel.proofs.signatures.+variables.Given as goal

abbrev pub decreases-add_variables : goal.decreases-add_variables
decreases-add_variables l = 2 * type_size l.t

abbrev pub decreases-add_all : goal.decreases-add_all
decreases-add_all l = 2 * most type_size l.ts.now + 1

abbrev pub invariant-add_all-types : goal.invariant-add_all-types
invariant-add_all-types l = (owner : NameId) (table : List (List ℕ)) → AllDiffer table → All (TypeIsOf owner table) l.ts
    → AddsOnce owner table l.fn.variables.items (variables_of table (take l.t-index l.ts)) l.variables.items
