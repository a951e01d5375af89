use Rattle.std.proofs.Common.{ℕ, List, drop}
use Rattle.std.specs.List.{All}
use Rattle.cu_syntax.specs.Owners.{ConstructorDeclarationIsOf}
use Rattle.cu_syntax.specs.Syntax.{Name}
use Rattle.cu_uses.specs.declared.first_fault.FirstFault.{FirstFault}
use Rattle.cu_uses.specs.Binders.{texts}
use Rattle.cu_uses.specs.Telling.{HasTexts}
use Rattle.cu_uses.specs.Inside.Scopes.{Sees}
use Rattle.cu_uses.specs.Inside.Tops.{fields_ask}
use Rattle.cu_uses.specs.Inside.Worlds.{Told, World}
use Rattle.cu_uses.proofs.item_uses.fields_uses.Given as goal

abbrev pub invariant-loop-constructor : goal.invariant-loop-constructor
invariant-loop-constructor l =
    (w : World) (local : List (List ℕ)) (names : List Name) (after : FirstFault) → Sees w local l.scope → HasTexts w.names (texts names) l.parameters
    → All (ConstructorDeclarationIsOf w.owner w.names) l.constructors
    → Told w l.first (fields_ask w.names names (drop l.constructor-index l.constructors)) after → Told w l.fn.first (fields_ask w.names names l.constructors) after
