-- States of a branch of the search. A state may hold an inner search for all values of a function,
-- which a call of its set function began, and whose level is a list of states.
use Rattle.std.specs.Prelude.{ℕ, zero, suc, ◌+◌, List, [], ◌∷◌, ◌++◌, None, Some, length}
use Rattle.cu_calculus.specs.declared.FunId.{FunId}
use Rattle.cu_calculus.specs.Value.{Value, Values}
use Rattle.cu_calculus.specs.Code.{Code, body_of, function_arity}
use Rattle.cu_machine.specs.declared.Kind.TheVariants as kind
use Rattle.cu_machine.specs.Build.{kind_of_call}
use Rattle.cu_machine.specs.Graph.{Graph, Node, alone}
use Rattle.cu_machine.specs.Spell.{push_values}

mutual
  -- a graph, the index of the node whose value is sought, the indices of the goal variables' nodes,
  -- and an inner search
  pub data State : Type 0 where
    Branch : Graph → ℕ → List ℕ → Search → State

  -- the inner search of a state
  pub data Search : Type 0 where
    Idle : Search
    -- A search runs: the index of the set function's call, the values found so far, and the level
    -- that is to be stepped next.
    Running : ℕ → List Value → States → Search

  -- several states: the level of an inner search
  pub data States : Type 0 where
    NoState : States
    MoreStates : State → States → States

-- the states of a list
abbrev pub states_of : List State → States
states_of [] = NoState
states_of (state ∷ states) = MoreStates state (states_of states)

-- the graph of a state
abbrev pub graph_of : State → Graph
graph_of (Branch graph root goals search) = graph

-- n numbers, one after another, from this one on
abbrev pub numbers : ℕ → ℕ → List ℕ
numbers from zero = []
numbers from (suc n) = from ∷ numbers (from + 1) n

-- n nodes that are free variables
abbrev pub free_nodes : ℕ → List Node
free_nodes zero = []
free_nodes (suc n) = alone kind.Free ∷ free_nodes n

-- the state of a goal with n variables: a free variable for each, and the call of the goal on them
abbrev pub start_on : Code → FunId → ℕ → State
start_on code goal variables =
    Branch (free_nodes variables ++ record {
      kind = kind_of_call goal (body_of code goal);
      args = numbers 0 variables;
    } ∷ [])
    variables (numbers 0 variables) Idle

-- the state in which the search for a goal begins: a free variable for each of its parameters, and
-- the call of the goal on them
abbrev pub start_of : Code → FunId → State
start_of code goal =
    start_on code goal (elim (function_arity code goal) [ Some n ↦ n | None ↦ 0 ])

-- the state in which an inner search begins: the nodes of the arguments, and the call of the
-- function on them
abbrev pub call_on : Code → FunId → Values → State
call_on code f arguments =
    let pushed = push_values 0 arguments in
    Branch (pushed.nodes ++ record { kind = kind_of_call f (body_of code f); args = pushed.ids }
    ∷ []) (length pushed.nodes) [] Idle
