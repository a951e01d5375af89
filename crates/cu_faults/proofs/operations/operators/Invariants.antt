use Rattle.std.proofs.Common.{IfSome, None, drop}
use Rattle.std.specs.List.{All}
use Rattle.cu_fixity.specs.Owners.{PartIsOf}
use Rattle.cu_forms.specs.Scopes.{Sees}
use Rattle.cu_syntax.specs.Owners.{ExpressionIsOf, NameIsOf}
use Rattle.cu_translation.specs.LocalNames.{Scope}
use Rattle.cu_translation.specs.Meaning.{Setting}
use Rattle.cu_faults.specs.declared.first.First.{First}
use Rattle.cu_faults.specs.Inside.Uses.{parts_faults}
use Rattle.cu_faults.specs.Telling.{Told}
use Rattle.cu_faults.proofs.operations.operators.Given as goal

-- what is left to tell gives all that is told
abbrev pub invariant-loop-part : goal.invariant-loop-part
invariant-loop-part g l =
    (w : Setting) (local : Scope) → g.A.Surroundings.tells l.around w → Sees w local l.scope
    → All (PartIsOf ExpressionIsOf w.owner w.names) l.parts
    → IfSome l.before (NameIsOf w.owner w.names)
    × ((after : First) → Told w.owner l.first (parts_faults w local l.before (drop l.part-index l.parts)) after
    → Told w.owner l.fn.first (parts_faults w local None l.parts) after)
