use Rattle.std.proofs.Common.{◌≡◌, ◌++◌, List, drop}
use Rattle.std.specs.List.{All}
use Rattle.cu_cycles.specs.Graph.{rows_in}
use Rattle.cu_declared.specs.Inside.Numbers.{Have}
use Rattle.cu_declared.specs.Inside.Synonyms.{SynonymIsOf}
use Rattle.cu_declared.specs.Inside.Told.{IsAt, World, bindings_of}
use Rattle.cu_declared.specs.Parameters.{Numbered}
use Rattle.cu_declared.proofs.SynonymLemmas.{rows_left}
use Rattle.cu_declared.proofs.synonyms.graph.Given as goal

abbrev pub invariant-loop-synonym : goal.invariant-loop-synonym
invariant-loop-synonym l =
    (w : World) (kept : List Numbered) → IsAt w l.scope.number l.scope.scopes.now → All (SynonymIsOf w.owner w.names) l.synonyms → Have w.names kept l.numbers
    → rows_in l.rows.items ++ rows_left w.names kept (bindings_of w) (drop l.synonym-index l.synonyms) ≡ rows_left w.names kept (bindings_of w) l.synonyms
