-- Nodes over pairs of arguments.
use Rattle.std.specs.Prelude.{ℕ, List, [], ◌∷◌, length}
use Rattle.cu_machine.specs.declared.Kind.{Kind}
use Rattle.cu_machine.specs.Build.{written}
use Rattle.cu_machine.specs.Graph.{Graph}
use Rattle.cu_machine.specs.Rewrite.{build_pairs}

-- the graph in which nodes over pairs are built over the node `id`
abbrev pub over_pairs : Kind → Kind → Graph → ℕ → List (ℕ × ℕ) → Graph
over_pairs each joint graph id [] = graph
over_pairs each joint graph id (pair ∷ pairs) =
    written graph id (build_pairs each joint (length graph) pair pairs)
