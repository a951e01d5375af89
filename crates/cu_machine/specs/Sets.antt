-- Code and states without set functions.
use Rattle.std.specs.Prelude.{ℕ, Bool, true, false, not, List, IsTrue}
use Rattle.std.specs.List.{list_all}
use Rattle.cu_calculus.specs.declared.Head.{Head}
use Rattle.cu_calculus.specs.declared.Head.TheVariants as head
use Rattle.cu_calculus.specs.Code as flat
use Rattle.cu_calculus.specs.Code.{Code}
use Rattle.cu_machine.specs.declared.Kind.{Kind}
use Rattle.cu_machine.specs.declared.Kind.TheVariants as kind
use Rattle.cu_machine.specs.Graph.{Graph}
use Rattle.cu_machine.specs.State.{Branch, Idle, State}

-- whether a head is a set function
abbrev pub is_set_head : Head → Bool
is_set_head (head.Set f) = true
is_set_head _ = false

-- whether an expression has a set function at its head
abbrev pub has_set_head : flat.Expr → Bool
has_set_head (flat.Whole h es) = is_set_head h
has_set_head (flat.Part h es) = is_set_head h
has_set_head _ = false

-- whether no expression of the code has a set function at its head
abbrev pub code_is_without_sets : Code → Bool
code_is_without_sets code = list_all (λ expr. not (has_set_head expr)) code.expressions

-- whether a node of this kind is a set function's call or its partial application
abbrev pub is_set_kind : Kind → Bool
is_set_kind (kind.SetCall f) = true
is_set_kind (kind.Part h) = is_set_head h
is_set_kind _ = false

-- whether no node of a graph is a set function's call or its partial application
abbrev pub graph_is_without_sets : Graph → Bool
graph_is_without_sets graph = list_all (λ node. not (is_set_kind node.kind)) graph

-- No set function stands in a state, and no inner search runs in it.
pub data IsWithoutSets : State → Type 0 where
  without : (graph : Graph) (root : ℕ) (goals : List ℕ) → IsTrue (graph_is_without_sets graph)
      → IsWithoutSets (Branch graph root goals Idle)
