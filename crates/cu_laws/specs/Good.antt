-- Good assignments: a value for each node of a graph, none greater than what the calculus gives
-- from the values of the node's parts.
use Rattle.std.specs.Prelude.{◌≡◌, ◌⊎◌, ℕ, ◌<◌, List, [], ◌∷◌, None, Some, IsTrue, length, map, zip}
use Rattle.cu_calculus.specs.declared.FunId.{FunId}
use Rattle.cu_calculus.specs.declared.Head.TheVariants as head
use Rattle.cu_calculus.specs.declared.Mode.{Mode}
use Rattle.cu_calculus.specs.declared.ExprId.{ExprId}
use Rattle.cu_calculus.specs.Below.{Below}
use Rattle.cu_calculus.specs.Builtin.{Answers}
use Rattle.cu_calculus.specs.Choose.{Selects}
use Rattle.cu_calculus.specs.Code as flat
use Rattle.cu_calculus.specs.Code.{Branch, Code, expr_of}
use Rattle.cu_calculus.specs.FlatProgram.{alternatives_of, program_of, term_of}
use Rattle.cu_calculus.specs.Gives.{Applied, AppliedTo, Claim, Gives}
use Rattle.cu_calculus.specs.Match.{Bindings, Environment, bind_all, empty}
use Rattle.cu_calculus.specs.Shape.{is_of, is_total_data}
use Rattle.cu_calculus.specs.Term.{Term}
use Rattle.cu_calculus.specs.Value as value
use Rattle.cu_calculus.specs.Value.{Value, Values, values_of}
use Rattle.cu_machine.specs.declared.Kind.{Kind}
use Rattle.cu_machine.specs.declared.Kind.TheVariants as kind
use Rattle.cu_machine.specs.Build.{Scope, place_in}
use Rattle.cu_machine.specs.Graph.{Graph, node_at}

-- a value for each node of a graph
abbrev pub Assignment : Type 0
Assignment = ℕ → Value

-- A case distinction of the code gives v, where its scrutinee is worth u and the variables that it
-- keeps are worth `values`: u takes an alternative, whose term gives v under the bindings of the
-- match.
pub record Distinguished (code : Code) (claims : List Claim) (e : ExprId) (u : Value)
    (values : List Value) (v : Value) : Type 0 where
  pub mode : Mode
  pub kept : List ℕ
  pub scrutinee : ExprId
  pub branches : List Branch
  pub code_is : expr_of code e ≡ Some (flat.Case mode kept scrutinee branches)
  pub term : Term
  pub bindings : Bindings
  pub selects : Selects (program_of code) (alternatives_of (term_of code) branches) u term
      bindings
  pub gives : Gives (program_of code) claims
      (bind_all (bind_all empty (zip kept values)) bindings) term v

-- The rows of the calculus by kinds of nodes: a node of this kind, whose parts are worth these
-- values, is worth v.
abbrev pub Worth : Code → List Claim → Kind → List Value → Value → Type 0
Worth code claims (kind.Cons c) us v =
    Applied (program_of code) claims (head.Con c) (values_of us) v
Worth code claims (kind.Lit l) us v = v ≡ value.Literal l
Worth code claims (kind.Part h) us v = v ≡ value.Partial h (values_of us)
Worth code claims (kind.Call f) us v =
    Applied (program_of code) claims (head.Fun f) (values_of us) v
Worth code claims (kind.Prim operation) us v =
    Answers (program_of code) operation (values_of us) v
Worth code claims kind.Apply (w ∷ u ∷ []) v = AppliedTo (program_of code) claims w u v
Worth code claims (kind.Case mode e) (u ∷ us) v =
    Distinguished code claims (record { 0 = e }) u us v
Worth code claims kind.Or (a ∷ b ∷ []) v = (v ≡ a) ⊎ (v ≡ b)
Worth code claims (kind.SetCall f) us v =
    Applied (program_of code) claims (head.Set f) (values_of us) v
Worth code claims _ us v = ⊥

-- The value v is Bottom, which says nothing, or at most a value that the node is worth.
abbrev pub AtMost : (Value → Type 0) → Value → Type 0
AtMost IsWorth v = (v ≡ value.Bottom) ⊎ ((w : Value) × IsWorth w × Below v w)

-- What the value of a node may be: of a free variable total data, of an Ind at most what its target
-- has, and of any other node at most what a row gives from the values of its parts. `of_stuck` says
-- what the value of a stuck node may be.
abbrev pub MayHave : (Value → Type 0) → Code → List Claim → Assignment → Kind → List ℕ → Value
    → Type 0
MayHave of_stuck code claims assigned kind.Free args v = IsTrue (is_total_data v)
MayHave of_stuck code claims assigned kind.Ind (target ∷ args) v = Below v (assigned target)
MayHave of_stuck code claims assigned kind.Fail args v = v ≡ value.Bottom
MayHave of_stuck code claims assigned kind.Stuck args v = of_stuck v
MayHave of_stuck code claims assigned k args v =
    AtMost (Worth code claims k (map assigned args)) v

-- A stuck node may have Bottom alone, as in good assignments.
abbrev pub NoValue : Value → Type 0
NoValue v = v ≡ value.Bottom

-- A stuck node may have any value, as in loose assignments.
abbrev pub AnyValue : Value → Type 0
AnyValue v = Unit {0}

-- The assignment gives each node a value of the program that the node may have.
pub record Assigns (of_stuck : Value → Type 0) (code : Code) (claims : List Claim)
    (graph : Graph) (assigned : Assignment) : Type 0 where
  pub of_program : (id : ℕ) → IsTrue (is_of (program_of code) (assigned id))
  pub each : (id : ℕ) → id < length graph
      → MayHave of_stuck code claims assigned (node_at graph id).kind (node_at graph id).args
      (assigned id)

-- A good assignment: what is stuck has no value.
abbrev pub Good : Code → List Claim → Graph → Assignment → Type 0
Good code claims graph assigned = Assigns NoValue code claims graph assigned

-- A loose assignment: what is stuck may have any value.
abbrev pub Loose : Code → List Claim → Graph → Assignment → Type 0
Loose code claims graph assigned = Assigns AnyValue code claims graph assigned

-- the environment in which the variables of a scope have the values of their nodes
abbrev pub env_in : Assignment → Scope → Environment
env_in assigned scope x = elim (place_in scope x) [ Some id ↦ assigned id | None ↦ value.Bottom ]

-- The assignment `high` says at least what `low` does, at every node.
abbrev pub RisesTo : Assignment → Assignment → Type 0
RisesTo low high = (id : ℕ) → Below (low id) (high id)

-- the claim that these are all ground values of a function on arguments
abbrev pub claim_of : FunId → Values → List Value → Claim
claim_of f arguments values = record { function = f; arguments = arguments; values = values }
