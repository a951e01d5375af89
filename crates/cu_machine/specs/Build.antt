-- Building the graph of an expression: nodes for its parts from left to right, and then its own
-- node. What is built depends on the number of the next node alone, and not on the graph that it
-- joins.
use Rattle.std.specs.Prelude.{ℕ, zero, suc, ◌+◌, List, [], ◌∷◌, ◌++◌, Option, None, Some, if◌then◌else◌, length, nat_eq}
use Rattle.cu_calculus.specs.declared.ExprId.{ExprId}
use Rattle.cu_calculus.specs.declared.FunId.{FunId}
use Rattle.cu_calculus.specs.declared.Head.{Head}
use Rattle.cu_calculus.specs.declared.Mode.{Mode}
use Rattle.cu_calculus.specs.declared.Head.TheVariants as head
use Rattle.cu_calculus.specs.declared.builtin.Primitive.TheVariants as prim
use Rattle.cu_calculus.specs.Code as flat
use Rattle.cu_calculus.specs.Code.{Body, Code, Expr, body_of, expr_of}
use Rattle.cu_machine.specs.declared.Kind.{Kind}
use Rattle.cu_machine.specs.declared.Kind.TheVariants as kind
use Rattle.cu_machine.specs.Graph.{Graph, Node, alone, put, renaming, stuck}

-- a scope: variables with the indices of their values' nodes, in the order in which they were bound
abbrev pub Scope : Type 0
Scope = List (ℕ × ℕ)

-- the index of a variable's value in a scope, where the variable bound last counts
abbrev pub place_in : Scope → ℕ → Option ℕ
place_in [] x = None
place_in ((y, id) ∷ scope) x =
    elim (place_in scope x) [
      | Some other ↦ Some other
      | None ↦ if nat_eq x y then Some id
          else None
    ]

-- Where the value of an expression stands: at a node that is there already, or in a new node that
-- is still to be placed.
pub data Top : Type 0 where
  Shared : ℕ → Top
  Fresh : Node → Top

-- what is built for an expression
pub record Built : Type 0 where
  -- the nodes of the expression's parts, in the order in which they are pushed
  pub parts : List Node
  pub top : Top

-- the outermost node, where it is new and so is pushed after the others
abbrev pub on_top : Top → List Node
on_top (Shared id) = []
on_top (Fresh node) = node ∷ []

-- the index of the value, where a new outermost node has the index `next`
abbrev pub top_id : ℕ → Top → ℕ
top_id next (Shared id) = id
top_id next (Fresh node) = next

-- the node that is written over another one so that this stands for the expression: an Ind where
-- the value is there already
abbrev pub instead : Top → Node
instead (Shared id) = renaming id
instead (Fresh node) = node

-- all nodes that are pushed, where the outermost node is pushed too
abbrev pub pushed : Built → List Node
pushed built = built.parts ++ on_top built.top

-- the index of the value, where the nodes are pushed from the index `next` on
abbrev pub place_of : ℕ → Built → ℕ
place_of next built = top_id (next + length built.parts) built.top

-- what is built for several expressions: all nodes that are pushed, and the indices of the values
pub record BuiltParts : Type 0 where
  pub nodes : List Node
  pub ids : List ℕ

-- what is built for several expressions from left to right, where `part` builds one from a next
-- index on
abbrev pub build_parts : {A : Type 0} → (ℕ → A → Built) → ℕ → List A → BuiltParts
build_parts part next [] = record { nodes = []; ids = [] }
build_parts part next (e ∷ es) =
    let one = part next e in
    let others = build_parts part (next + length (pushed one)) es
    in record { nodes = pushed one ++ others.nodes; ids = place_of next one ∷ others.ids }

-- what is built for a node that needs no other nodes
abbrev pub build_alone : Node → Built
build_alone node = record { parts = []; top = Fresh node }

-- what is built for a node over these parts
abbrev pub build_node : Kind → BuiltParts → Built
build_node k parts =
    record { parts = parts.nodes; top = Fresh (record { kind = k; args = parts.ids }) }

-- what is built after these nodes were pushed
abbrev pub after : List Node → Built → Built
after nodes built = record { parts = nodes ++ built.parts; top = built.top }

-- what is built for a variable: nothing where its value is there, else a stuck node
abbrev pub build_variable : Option ℕ → Built
build_variable (Some id) = record { parts = []; top = Shared id }
build_variable None = build_alone stuck

-- the kind of a function's call: a built-in operation has a kind of its own, and `failed` is a Fail
-- node
abbrev pub kind_of_call : FunId → Option Body → Kind
kind_of_call f None = kind.Stuck
kind_of_call f (Some (flat.Rule params body)) = kind.Call f
kind_of_call f (Some (flat.External prim.Failed)) = kind.Fail
kind_of_call f (Some (flat.External operation)) = kind.Prim operation

-- the kind of a node for a head with all its arguments
abbrev pub kind_of_whole : Code → Head → Kind
kind_of_whole code (head.Con c) = kind.Cons c
kind_of_whole code (head.Fun f) = kind_of_call f (body_of code f)
kind_of_whole code (head.Set f) = kind.SetCall f

-- what is built for a Let: the bound expression, and then the body, in whose scope the variable
-- stands for it
abbrev pub build_let : (Scope → ℕ → ExprId → Built) → Scope → ℕ → ℕ → ExprId → ExprId → Built
build_let part scope next x bound body =
    let first = part scope next bound in
    after (pushed first) (part (scope ++ (x, place_of next first) ∷ [])
    (next + length (pushed first)) body)

-- what is built for a free variable: its node, and then the body
abbrev pub build_free : (Scope → ℕ → ExprId → Built) → Scope → ℕ → ℕ → ExprId → Built
build_free part scope next x body =
    after (alone kind.Free ∷ []) (part (scope ++ (x, next) ∷ []) (next + 1) body)

-- What is built for a case distinction: the scrutinee, and then the node, which keeps the values of
-- the variables that the branches use, as a closure does.
abbrev pub build_case : (Scope → ℕ → ExprId → Built) → Scope → ℕ → Mode → ExprId → List ℕ → ExprId
    → Built
build_case part scope next mode e kept scrutinee =
    let first = part scope next scrutinee in
    let values = build_parts (λ place x. build_variable (place_in scope x))
    (next + length (pushed first)) kept in
    record {
      parts = pushed first ++ values.nodes;
      top = Fresh (record { kind = kind.Case mode e.0; args = place_of next first ∷ values.ids });
    }

-- what is built for one expression, whose parts `part` builds
abbrev pub build_expr : (Scope → ℕ → ExprId → Built) → Code → Scope → ℕ → ExprId → Option Expr
    → Built
build_expr part code scope next e None = build_alone stuck
build_expr part code scope next e (Some (flat.Variable x)) = build_variable (place_in scope x)
build_expr part code scope next e (Some (flat.Literal l)) = build_alone (alone (kind.Lit l))
build_expr part code scope next e (Some (flat.Whole h arguments)) =
    build_node (kind_of_whole code h) (build_parts (part scope) next arguments)
build_expr part code scope next e (Some (flat.Part h arguments)) =
    build_node (kind.Part h) (build_parts (part scope) next arguments)
build_expr part code scope next e (Some (flat.Apply function argument)) =
    build_node kind.Apply (build_parts (part scope) next (function ∷ argument ∷ []))
build_expr part code scope next e (Some (flat.Let x bound body)) =
    build_let part scope next x bound body
build_expr part code scope next e (Some (flat.Free x body)) = build_free part scope next x body
build_expr part code scope next e (Some (flat.Or left right)) =
    build_node kind.Or (build_parts (part scope) next (left ∷ right ∷ []))
build_expr part code scope next e (Some (flat.Case mode kept scrutinee branches)) =
    build_case part scope next mode e kept scrutinee

-- What is built for an expression of the code, from the index `next` on. The first number bounds
-- how deep expressions nest; as many as the code has suffice.
unfoldable pub build_within : ℕ → Code → Scope → ℕ → ExprId → Built
build_within zero code scope next e = build_alone stuck
build_within (suc depth) code scope next e =
    build_expr (build_within depth code) code scope next e (expr_of code e)

-- what is built for an expression of the code, from the index `next` on
abbrev pub build : Code → Scope → ℕ → ExprId → Built
build code scope next e = build_within (length code.expressions) code scope next e

-- the graph after something was built over the node with this index
abbrev pub written : Graph → ℕ → Built → Graph
written graph id built = put (graph ++ built.parts) id (instead built.top)

-- the graph after an expression was built over the node with this index
abbrev pub write : Code → Scope → Graph → ℕ → ExprId → Graph
write code scope graph id e = written graph id (build code scope (length graph) e)
