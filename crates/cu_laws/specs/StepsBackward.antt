-- Steps back: from an assignment that is good for a state to one that is good for a state before
-- it.
use Rattle.std.specs.Prelude.{ℕ, List, [], ◌∷◌, ◌++◌}
use Rattle.cu_calculus.specs.Code.{Code}
use Rattle.cu_calculus.specs.Gives.{Claim}
use Rattle.cu_calculus.specs.Value.{Value}
use Rattle.cu_machine.specs.declared.Kind.{Kind}
use Rattle.cu_machine.specs.declared.Kind.TheVariants as kind
use Rattle.cu_machine.specs.declared.Limits.{Limits}
use Rattle.cu_machine.specs.Graph.{Graph, node_at}
use Rattle.cu_machine.specs.Sort.{sorted}
use Rattle.cu_machine.specs.State.{Branch, NoState, Running, State, graph_of}
use Rattle.cu_laws.specs.AtLevel.{AreBelow}
use Rattle.cu_laws.specs.Good.{Assignment, Good, RisesTo, claim_of}
use Rattle.cu_laws.specs.Traced.{AreFound, spelled_values}

-- the claim that the values that were found, sorted and without repeats, are all values of a set
-- function's call
abbrev pub claims_of_call : Graph → Kind → List ℕ → List Value → List Claim
claims_of_call graph (kind.SetCall f) args found =
    claim_of f (spelled_values graph args) (sorted found) ∷ []
claims_of_call graph _ args found = []

-- what is claimed of a state beside what is claimed of those that follow it: one row, where the
-- state's search has ended
abbrev pub claims_of_end : State → List Claim
claims_of_end (Branch graph root goals (Running id found NoState)) =
    claims_of_call graph (node_at graph id).kind (node_at graph id).args found
claims_of_end _ = []

-- Some assignment is good for the state, over the claims and over further ones, each of which a
-- search finds and whose functions have levels below this one. It says at least what `later` does,
-- at every node.
pub record StepsBackward (code : Code) (limits : Limits) (levels : List ℕ) (level : ℕ)
    (claims further : List Claim) (state : State) (later : Assignment) : Type 0 where
  pub found : AreFound code limits further
  pub below : AreBelow levels level further
  pub earlier : Assignment
  pub good : Good code (claims ++ further) (graph_of state) earlier
  pub rises : RisesTo later earlier
