-- Valid states: indices name nodes, nodes have the arguments that their kinds ask for, graphs have
-- no cycles, and the goal variables stand for data.
use Rattle.std.specs.Prelude.{ℕ, ◌<◌, suc, Bool, true, false, ◌&&◌, List, [], ◌∷◌, Option, Some, IsTrue, length, nat_eq, nat_lt}
use Rattle.std.specs.List.{list_all}
use Rattle.cu_calculus.specs.declared.Head.TheVariants as head
use Rattle.cu_calculus.specs.declared.Mode.{Mode}
use Rattle.cu_calculus.specs.declared.builtin.Primitive.{Primitive}
use Rattle.cu_calculus.specs.declared.builtin.Primitive.TheVariants as prim
use Rattle.cu_calculus.specs.Code as flat
use Rattle.cu_calculus.specs.Code.{Code, arity_of, body_of, expr_of}
use Rattle.cu_calculus.specs.Literal.{is_literal}
use Rattle.cu_calculus.specs.Shape.{takes, takes_more}
use Rattle.cu_calculus.specs.Valid.{external_arity}
use Rattle.cu_calculus.specs.Value as value
use Rattle.cu_calculus.specs.Value.{Value, Values, count}
use Rattle.cu_calculus.specs.WellFormed.{is_allowed, same_mode}
use Rattle.cu_machine.specs.declared.Kind.{Kind}
use Rattle.cu_machine.specs.declared.Kind.TheVariants as kind
use Rattle.cu_machine.specs.Graph.{Graph, node_at}
use Rattle.cu_machine.specs.State.{Branch, Idle, MoreStates, NoState, Running, Search, State, States}

-- ---- nodes

-- whether a function has rules and takes n arguments
abbrev pub is_call : Option ℕ → Option flat.Body → ℕ → Bool
is_call arity (Some (flat.Rule params body)) n = takes arity n
is_call arity _ n = false

-- whether an operation takes n arguments; `failed` has no node of this kind
abbrev pub is_operation : Primitive → ℕ → Bool
is_operation prim.Failed n = false
is_operation operation n = nat_eq (external_arity operation) n

-- whether an expression is a case distinction of this mode, whose node has n arguments: a
-- scrutinee, and a value for each variable that it keeps
abbrev pub is_case : Mode → Option flat.Expr → ℕ → Bool
is_case mode (Some (flat.Case other variables e branches)) n =
    same_mode mode other && nat_eq n (suc (length variables))
is_case mode _ n = false

-- whether a node of this kind has n arguments
abbrev pub has_arguments : Code → Kind → ℕ → Bool
has_arguments code (kind.Cons c) n = takes (arity_of code (head.Con c)) n
has_arguments code (kind.Lit l) n = is_literal l && nat_eq n 0
has_arguments code (kind.Part h) n = is_allowed code h && takes_more (arity_of code h) n
has_arguments code kind.Free n = nat_eq n 0
has_arguments code (kind.Call f) n =
    is_call (arity_of code (head.Fun f)) (body_of code f) n
has_arguments code (kind.Prim operation) n = is_operation operation n
has_arguments code kind.Apply n = nat_eq n 2
has_arguments code (kind.Case mode e) n = is_case mode (expr_of code (record { 0 = e })) n
has_arguments code kind.Or n = nat_eq n 2
has_arguments code kind.Ind n = nat_eq n 1
has_arguments code (kind.SetCall f) n =
    is_allowed code (head.Set f) && takes (arity_of code (head.Set f)) n
has_arguments code kind.Fail n = nat_eq n 0
has_arguments code kind.Stuck n = nat_eq n 0

-- whether all of these are indices of nodes, in a graph of n nodes
abbrev pub are_places : ℕ → List ℕ → Bool
are_places n ids = list_all (λ id. nat_lt id n) ids

-- Every node of a graph has as many arguments as its kind takes in the program.
abbrev pub NodesFit : Code → Graph → Type 0
NodesFit code graph = (id : ℕ) → id < length graph
    → IsTrue (has_arguments code (node_at graph id).kind (length (node_at graph id).args))

-- The arguments of every node are nodes of the graph.
abbrev pub ArgumentsThere : Graph → Type 0
ArgumentsThere graph = (id : ℕ) → id < length graph
    → IsTrue (are_places (length graph) (node_at graph id).args)

-- ---- no cycles

-- No path from the node is endless.
mutual
  pub data Founded (graph : Graph) : ℕ → Type 0 where
    founded : (id : ℕ) → AllFounded graph (node_at graph id).args → Founded graph id

  -- No path from one of the nodes is endless.
  pub data AllFounded (graph : Graph) : List ℕ → Type 0 where
    none : AllFounded graph []
    more : (id : ℕ) (ids : List ℕ) → Founded graph id → AllFounded graph ids
        → AllFounded graph (id ∷ ids)

-- From no node of a graph is a path endless, so that it has no cycle.
abbrev pub IsAcyclic : Graph → Type 0
IsAcyclic graph = (id : ℕ) → id < length graph → Founded graph id

-- ---- goal variables

-- whether a node of this kind may stand in the value of a goal variable
abbrev pub is_plain : Kind → Bool
is_plain kind.Free = true
is_plain (kind.Lit l) = true
is_plain (kind.Cons c) = true
is_plain kind.Ind = true
is_plain _ = false

-- From the node only free variables, literals, constructors and Inds are reached.
mutual
  pub data Plain (graph : Graph) : ℕ → Type 0 where
    plain : (id : ℕ) → IsTrue (is_plain (node_at graph id).kind)
        → AllPlain graph (node_at graph id).args → Plain graph id

  -- From each of the nodes only free variables, literals, constructors and Inds are reached.
  pub data AllPlain (graph : Graph) : List ℕ → Type 0 where
    none : AllPlain graph []
    more : (id : ℕ) (ids : List ℕ) → Plain graph id → AllPlain graph ids → AllPlain graph (id ∷ ids)

-- ---- states

-- whether a value is ground data, whose constructors are the code's and have all their arguments
abbrev mutual
  pub is_built : Code → Value → Bool
  is_built code value.Bottom = false
  is_built code (value.Variable x) = false
  is_built code (value.Literal l) = is_literal l
  is_built code (value.Constructed c vs) =
      takes (arity_of code (head.Con c)) (count vs) && are_built code vs
  is_built code (value.Partial h vs) = false

  -- whether several values are ground data of the code
  pub are_built : Code → Values → Bool
  are_built code value.NoValue = true
  are_built code (value.MoreValues v vs) = is_built code v && are_built code vs

-- whether a node of this kind is the call of a set function
abbrev pub is_set_call : Kind → Bool
is_set_call (kind.SetCall f) = true
is_set_call _ = false

-- A graph with a root and goal variables is valid, apart from an inner search.
pub record IsValidBranch (code : Code) (graph : Graph) (root : ℕ) (goals : List ℕ) : Type 0 where
  pub root_there : root < length graph
  pub goals_there : IsTrue (are_places (length graph) goals)
  pub nodes : NodesFit code graph
  pub arguments : ArgumentsThere graph
  pub acyclic : IsAcyclic graph
  pub goals_plain : AllPlain graph goals

-- An inner search belongs to the call of a set function in the graph, and the values that it found
-- are ground data.
pub record IsValidSearch (code : Code) (graph : Graph) (id : ℕ)
    (found : List Value) : Type 0 where
  pub there : id < length graph
  pub set_call : IsTrue (is_set_call (node_at graph id).kind)
  pub built : IsTrue (list_all (is_built code) found)

unfoldable mutual
  -- A state is valid, with all states of its inner search.
  pub IsValid : Code → State → Type 0
  IsValid code (Branch graph root goals search) =
      IsValidBranch code graph root goals × SearchIsValid code graph search

  -- The inner search of a state with this graph is valid, if one runs.
  pub SearchIsValid : Code → Graph → Search → Type 0
  SearchIsValid code graph Idle = Unit {0}
  SearchIsValid code graph (Running id found level) =
      IsValidSearch code graph id found × AllValid code level

  -- Several states are valid.
  pub AllValid : Code → States → Type 0
  AllValid code NoState = Unit {0}
  AllValid code (MoreStates state states) = IsValid code state × AllValid code states
