use Rattle.std.proofs.Common.{◌≡◌, ◌++◌, List, drop}
use Rattle.std.specs.List.{All}
use Rattle.cu_declared.specs.Inside.Gathered.{UseIsOf, uses_meaning}
use Rattle.cu_declared.specs.Inside.Numbers.{Have}
use Rattle.cu_declared.specs.Inside.Synonyms.{targets}
use Rattle.cu_declared.specs.Inside.Told.{IsAt, World, bindings_of}
use Rattle.cu_declared.specs.Parameters.{Numbered}
use Rattle.cu_declared.proofs.synonyms.row.Given as goal

abbrev pub invariant-uses : goal.invariant-uses
invariant-uses l =
    (w : World) (kept : List Numbered) → IsAt w l.scope.number l.scope.scopes.now → All (UseIsOf w.owner w.names) l.uses → Have w.names kept l.numbers
    → l.row.items ++ targets kept (bindings_of w) (uses_meaning w.names (drop l.used-index l.uses)) ≡ targets kept (bindings_of w) (uses_meaning w.names l.uses)
