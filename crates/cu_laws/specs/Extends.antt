-- Assignments for a graph in which an expression was built over a node.
use Rattle.std.specs.Prelude.{◌≡◌, ◌⊎◌, ℕ, ◌<◌, ◌≤◌, List, IsTrue, length}
use Rattle.cu_calculus.specs.Code.{Code}
use Rattle.cu_calculus.specs.FlatProgram.{program_of}
use Rattle.cu_calculus.specs.Gives.{Claim}
use Rattle.cu_calculus.specs.Shape.{is_of}
use Rattle.cu_calculus.specs.Value as value
use Rattle.cu_machine.specs.Graph.{Graph, node_at}
use Rattle.cu_laws.specs.Good.{Assignment, MayHave, NoValue}

-- The assignment `extended` keeps what `assigned` gives the nodes of a graph, and gives the new
-- nodes, and the one over which an expression was built, values that these may have.
pub record Extends (code : Code) (claims : List Claim) (graph : Graph) (id : ℕ) (after : Graph)
    (assigned extended : Assignment) : Type 0 where
  pub of_program : (x : ℕ) → IsTrue (is_of (program_of code) (extended x))
  pub same : (x : ℕ) → x < length graph → extended x ≡ assigned x
  -- Nothing is known past the new nodes.
  pub past : (x : ℕ) → length after ≤ x → extended x ≡ value.Bottom
  pub each : (x : ℕ) → x < length after → (x ≡ id) ⊎ (length graph ≤ x)
      → MayHave NoValue code claims extended (node_at after x).kind (node_at after x).args
      (extended x)
