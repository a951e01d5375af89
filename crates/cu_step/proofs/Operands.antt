-- The arguments of heads are nodes of the graph; which operations compute.
use Rattle.std.proofs.Common.{◌≡◌, ◌≢◌, ℕ, true, List, length, map, refl, ap, ◌∙◌, inl, inr}
use Rattle.std.proofs.lemmas.Bool.{cases_lt}
use Rattle.std.proofs.lemmas.List.{get_or_past}
use Rattle.cu_calculus.specs.declared.builtin.Primitive.{Primitive}
use Rattle.cu_calculus.specs.declared.builtin.Primitive.TheVariants as prim
use Rattle.cu_calculus.specs.declared.builtin.Special.{Special}
use Rattle.cu_machine.specs.Graph.{Graph, Node, head_at, node_at, stuck}
use Rattle.cu_machine.specs.Rewrite.{literal_step, operation_step}
use Rattle.cu_machine.specs.Validity.{ArgumentsThere, are_places}

pub args_there : (graph : Graph) (id : ℕ) (args : List ℕ) → ArgumentsThere graph → args ≡ (node_at graph id).args → are_places (length graph) args ≡ true
args_there graph id args there is =
    ap (are_places (length graph)) is ∙ elim (cases_lt id (length graph)) [
      | inl within ↦ there id within
      | inr past ↦ ap (λ (node : Node). are_places (length graph) node.args) (get_or_past graph id stuck past)
    ]

pub other_operations : (special : Special) (graph : Graph) (id : ℕ) (operation : Primitive) (args : List ℕ)
    → operation ≢ prim.Equal → operation ≢ prim.Unify → operation ≢ prim.And
    → operation_step special graph id operation args ≡ literal_step special graph id operation (map (λ arg. (head_at graph arg).kind) args)
other_operations special graph id prim.Equal args unlike unequal some = absurd (unlike refl)
other_operations special graph id prim.Unify args unlike unequal some = absurd (unequal refl)
other_operations special graph id prim.And args unlike unequal some = absurd (some refl)
other_operations special graph id _ args unlike unequal some = refl

pub ruleset operands = (args_there, other_operations)
