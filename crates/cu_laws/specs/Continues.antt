-- From an assignment for a graph to one for a graph that follows it, by which no value is lost.
use Rattle.std.specs.Prelude.{◌≡◌, ℕ, ◌<◌, ◌≤◌, List, length}
use Rattle.cu_calculus.specs.Code.{Code}
use Rattle.cu_calculus.specs.Gives.{Claim}
use Rattle.cu_calculus.specs.Value as value
use Rattle.cu_machine.specs.Graph.{Graph}
use Rattle.cu_laws.specs.Good.{Assignment, Loose}

-- The assignment says nothing of nodes past the graph.
abbrev pub NothingPast : Graph → Assignment → Type 0
NothingPast graph assigned = (x : ℕ) → length graph ≤ x → assigned x ≡ value.Bottom

-- The assignment `later`, for a graph that follows, is loose and gives each node of the graph
-- before the value that it had.
pub record Continues (code : Code) (claims : List Claim) (graph after : Graph)
    (assigned later : Assignment) : Type 0 where
  pub loose : Loose code claims after later
  pub past : NothingPast after later
  pub same : (x : ℕ) → x < length graph → later x ≡ assigned x
