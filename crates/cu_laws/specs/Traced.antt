-- A search for all values of a function that runs in a state, traced back to the call at which it
-- began.
use Rattle.std.specs.Prelude.{◌≡◌, ℕ, ◌<◌, List, IsTrue, Some, map, slice_get}
use Rattle.std.specs.List.{list_all}
use Rattle.cu_calculus.specs.declared.FunId.{FunId}
use Rattle.cu_calculus.specs.Code.{Code}
use Rattle.cu_calculus.specs.Gives.{Claim}
use Rattle.cu_calculus.specs.Value.{Value, Values, values_of}
use Rattle.cu_machine.specs.declared.Kind.TheVariants as kind
use Rattle.cu_machine.specs.declared.Limits.{Limits}
use Rattle.cu_machine.specs.Found.{Found, answers_before, inner_events, is_quiet}
use Rattle.cu_machine.specs.Graph.{Graph, node_at}
use Rattle.cu_machine.specs.Level.{step_level}
use Rattle.cu_machine.specs.Spell.{spelled}
use Rattle.cu_machine.specs.State.{Branch, Idle, Running, State, States, call_on, states_of}
use Rattle.cu_machine.specs.Validity.{are_built}

-- the values that arguments spell
abbrev pub spelled_values : Graph → List ℕ → Values
spelled_values graph args = values_of (map (spelled graph) args)

-- The search stands at the set function's call on ground data. Its level is one of the levels from
-- the call of the function on these data. What it has found was answered in the levels before, in
-- which every event was quiet.
pub record TracedSearch (code : Code) (limits : Limits) (graph : Graph) (id : ℕ)
    (found : List Value) (level : States) : Type 0 where
  pub function : FunId
  pub args : List ℕ
  pub node_is : node_at graph id ≡ record { kind = kind.SetCall function; args = args }
  pub built : IsTrue (are_built code (spelled_values graph args))
  pub depth : ℕ
  pub level_is : level ≡ states_of
      (step_level code limits (call_on code function (spelled_values graph args)) depth)
  pub found_is : found
      ≡ answers_before (inner_events code limits function (spelled_values graph args)) depth
  pub quiet : (k : ℕ) → k < depth → IsTrue
      (list_all is_quiet (inner_events code limits function (spelled_values graph args) k))

-- The search that runs in a state, where one does, is traced back to its call.
abbrev pub IsTraced : Code → Limits → State → Type 0
IsTraced code limits (Branch graph root goals Idle) = Unit {0}
IsTraced code limits (Branch graph root goals (Running id found level)) =
    TracedSearch code limits graph id found level

-- Each of the claims is what a search finds.
abbrev pub AreFound : Code → Limits → List Claim → Type 0
AreFound code limits claims = (k : ℕ) (claim : Claim) → slice_get claims k ≡ Some claim
    → Found code limits claim.function claim.arguments claim.values
