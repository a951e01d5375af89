use Rattle.std.proofs.Common.{List, drop}
use Rattle.std.specs.List.{All}
use Rattle.cu_declared.specs.declared.first_fault.FirstFault.{FirstFault}
use Rattle.cu_declared.specs.Inside.Arities.{arity_faults}
use Rattle.cu_declared.specs.Inside.Gathered.{UseIsOf, uses_meaning}
use Rattle.cu_declared.specs.Inside.Numbers.{Have}
use Rattle.cu_declared.specs.Inside.Told.{IsAt, Told, World, bindings_of}
use Rattle.cu_declared.specs.Parameters.{Numbered}
use Rattle.cu_declared.proofs.arities.tell_arities.Given as goal

abbrev pub invariant-loop-used : goal.invariant-loop-used
invariant-loop-used l =
    (w : World) (numbers : List Numbered) (after : FirstFault) → IsAt w l.scope.number l.scope.scopes.now → All (UseIsOf w.owner w.names) l.uses → Have w.names numbers l.types
    → Told w l.first (arity_faults numbers (bindings_of w) (uses_meaning w.names (drop l.used-index l.uses))) after
    → Told w l.fn.first (arity_faults numbers (bindings_of w) (uses_meaning w.names l.uses)) after
