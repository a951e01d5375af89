use Rattle.std.proofs.Common.{ℕ, List, drop}
use Rattle.std.specs.List.{All}
use Rattle.cu_names.specs.declared.names.NameId.{NameId}
use Rattle.cu_syntax.specs.Owners.{ConstructorDeclarationIsOf}
use Rattle.cu_declared.specs.declared.found.TypeUse.{TypeUse}
use Rattle.cu_declared.specs.Inside.Gathered.{Adds}
use Rattle.cu_declared.specs.Inside.Items.{in_fields}
use Rattle.cu_declared.proofs.items.fields_uses.Given as goal

abbrev pub invariant-loop-constructor : goal.invariant-loop-constructor
invariant-loop-constructor l =
    (owner : NameId) (names : List (List ℕ)) (after : List TypeUse) → All (ConstructorDeclarationIsOf owner names) l.constructors
    → Adds owner names l.found.items (in_fields names (drop l.constructor-index l.constructors)) after → Adds owner names l.fn.found.items (in_fields names l.constructors) after
