-- The step table as a relation, with a constructor for each row that gives graphs: which graphs
-- follow where the node `id` is rewritten, by needed narrowing (Antoy, Echahed and Hanus 2000) with
-- call-time choice (Hussmann 1993). The relation agrees with the function of Rewrite wherever the
-- node is needed in a valid state. Moves that end a branch or begin a search have no row.
use Rattle.std.specs.Prelude.{◌≡◌, ◌≢◌, ◌<◌, ℕ, ◌+◌, Bool, true, false, ◌&&◌, ◌||◌, List, [], ◌∷◌, ◌++◌, Option, None, Some, IsTrue, IsFalse, if◌then◌else◌, length, map, zip, ℤ, pos, ◌+ℤ◌, ◌-ℤ◌, ◌*ℤ◌, int_lt, int_le}
use Rattle.std.specs.Ordering.{int_eq}
use Rattle.cu_calculus.specs.declared.ConId.{ConId}
use Rattle.cu_calculus.specs.declared.ExprId.{ExprId}
use Rattle.cu_calculus.specs.declared.FunId.{FunId}
use Rattle.cu_calculus.specs.declared.Head.{Head}
use Rattle.cu_calculus.specs.declared.Lit.{Lit}
use Rattle.cu_calculus.specs.declared.Lit.TheVariants.{Char, Int}
use Rattle.cu_calculus.specs.declared.Mode.{Mode}
use Rattle.cu_calculus.specs.declared.Mode.TheVariants.{Flex}
use Rattle.cu_calculus.specs.declared.builtin.Primitive.{Primitive}
use Rattle.cu_calculus.specs.declared.builtin.Primitive.TheVariants as prim
use Rattle.cu_int.specs.Integers.{floor_quotient, floor_rest}
use Rattle.cu_calculus.specs.Code as flat
use Rattle.cu_calculus.specs.Code.{Branch, Code, arity_of, body_of, expr_of}
use Rattle.cu_int.specs.Integers.{is_integer}
use Rattle.cu_calculus.specs.Literal.{is_scalar, same_literal}
use Rattle.cu_calculus.specs.Match.{same_constructor}
use Rattle.cu_calculus.specs.Shape.{are_data}
use Rattle.cu_calculus.specs.Value.{values_of}
use Rattle.cu_calculus.specs.WellFormed.{bound_by}
use Rattle.cu_machine.specs.declared.Kind.{Kind}
use Rattle.cu_machine.specs.declared.Kind.TheVariants as kind
use Rattle.cu_machine.specs.Among.{Among}
use Rattle.cu_machine.specs.Build.{Scope, kind_of_whole, write}
use Rattle.cu_machine.specs.Graph.{Graph, Node, alone, head_at, head_of, node_at, put, renaming}
use Rattle.cu_machine.specs.Rewrite.{alone_follows, bound_to, branch_for, decomposition_step, is_true, occurs_in, pairwise_comparison_step, takes_constructor, takes_literal, truth_node}
use Rattle.cu_machine.specs.Spell.{spelled}
use Rattle.cu_machine.specs.State.{free_nodes, numbers}

-- a node of this kind with these arguments
abbrev pub node : Kind → List ℕ → Node
node k args = record { kind = k; args = args }

-- ---- results

-- the graph in which the node `id` fails
abbrev pub failing : Graph → ℕ → Graph
failing graph id = put graph id (alone kind.Fail)

-- the graph in which the node `id` becomes True or False
abbrev pub telling : Code → Graph → ℕ → Bool → Graph
telling code graph id answer = put graph id (truth_node code.special answer)

-- ---- premises

-- The node `id` is a case distinction of this mode over this scrutinee, whose code has these
-- branches, and this is the scope that it keeps.
pub record CaseAt (code : Code) (graph : Graph) (id : ℕ) (mode : Mode) (scrutinee : ℕ)
    (scope : Scope) (branches : List Branch) : Type 0 where
  pub number : ℕ
  pub inner : ExprId
  pub kept : List ℕ
  pub values : List ℕ
  pub node_is : node_at graph id ≡ node (kind.Case mode number) (scrutinee ∷ values)
  pub code_is : expr_of code (record { 0 = number }) ≡ Some (flat.Case mode kept inner branches)
  pub scope_is : scope ≡ zip kept values

-- whether a node of this kind is a partial application
abbrev pub is_partial : Kind → Bool
is_partial (kind.Part h) = true
is_partial _ = false

-- One of an equation's two sides has the free variable `v` as its head, and the other side has the
-- head `other`.
pub data FreeBeside (graph : Graph) (a b v other : ℕ) (k : Kind) (args : List ℕ) : Type 0 where
  on_the_left : (us : List ℕ) → head_of graph a ≡ v → head_at graph a ≡ node kind.Free us
      → head_of graph b ≡ other → head_at graph b ≡ node k args
      → FreeBeside graph a b v other k args
  on_the_right : (us : List ℕ) → head_of graph b ≡ v → head_at graph b ≡ node kind.Free us
      → head_of graph a ≡ other → head_at graph a ≡ node k args
      → FreeBeside graph a b v other k args

-- whether one node is a literal and the other one a constructor
abbrev pub are_mixed : Kind → Kind → Bool
are_mixed (kind.Lit l) (kind.Cons c) = true
are_mixed (kind.Cons c) (kind.Lit l) = true
are_mixed _ _ = false

-- whether an operation is one on literals
abbrev pub is_on_literals : Primitive → Bool
is_on_literals prim.Equal = false
is_on_literals prim.Unify = false
is_on_literals prim.And = false
is_on_literals prim.Failed = false
is_on_literals _ = true

-- the integer that an operation gives, where it gives one
abbrev pub number_of : Primitive → ℤ → ℤ → Option ℤ
number_of prim.Add m n = Some (m +ℤ n)
number_of prim.Sub m n = Some (m -ℤ n)
number_of prim.Mul m n = Some (m *ℤ n)
number_of prim.Div m n = if int_eq n (pos 0) then None else Some (floor_quotient m n)
number_of prim.Mod m n = if int_eq n (pos 0) then None else Some (floor_rest m n)
number_of _ m n = None

-- the answer of a comparison, where the operation is one
abbrev pub test_of : Primitive → ℤ → ℤ → Option Bool
test_of prim.Less m n = Some (int_lt m n)
test_of prim.AtMost m n = Some (int_le m n)
test_of prim.Greater m n = Some (int_lt n m)
test_of prim.AtLeast m n = Some (int_le n m)
test_of _ m n = None

-- whether an operation divides
abbrev pub divides : Primitive → Bool
divides prim.Div = true
divides prim.Mod = true
divides _ = false

-- whether an operation takes two integers
abbrev pub is_on_integers : Primitive → Bool
is_on_integers prim.Ord = false
is_on_integers prim.Chr = false
is_on_integers operation = is_on_literals operation

-- whether nodes of these kinds are literals that an operation takes
abbrev pub are_operands : Primitive → List Kind → Bool
are_operands operation (kind.Lit (Int m) ∷ kind.Lit (Int n) ∷ []) = is_on_integers operation
are_operands prim.Ord (kind.Lit (Char c) ∷ []) = true
are_operands prim.Chr (kind.Lit (Int n) ∷ []) = true
are_operands _ _ = false

-- the kinds of the heads of arguments
abbrev pub kinds_of : Graph → List ℕ → List Kind
kinds_of graph args = map (λ arg. (head_at graph arg).kind) args

-- the graph in which a free variable became a constructor over n new ones
abbrev pub imitating : Graph → ℕ → ConId → ℕ → Graph
imitating graph v c n =
    put (graph ++ free_nodes n) v (node (kind.Cons c) (numbers (length graph) n))

-- ---- rows

-- By a row of the step table the graph `after` follows where the node `id` is rewritten.
pub data Steps (code : Code) (graph : Graph) (id : ℕ) (after : Graph) : Type 0 where
  -- A call becomes the function's right side.
  call : (f : FunId) (args params : List ℕ) (body : ExprId)
      → node_at graph id ≡ node (kind.Call f) args
      → body_of code f ≡ Some (flat.Rule params body)
      → after ≡ write code (zip params args) graph id body → Steps code graph id after
  -- A choice becomes its left argument, or its right one.
  left : (one two : ℕ) → node_at graph id ≡ node kind.Or (one ∷ two ∷ [])
      → after ≡ put graph id (renaming one) → Steps code graph id after
  right : (one two : ℕ) → node_at graph id ≡ node kind.Or (one ∷ two ∷ [])
      → after ≡ put graph id (renaming two) → Steps code graph id after
  -- A case distinction on a literal, a constructor or a partial application becomes the branch that
  -- matches, or fails.
  literal_branch : (mode : Mode) (scrutinee : ℕ) (scope : Scope) (branches : List Branch) (l : Lit)
      (args : List ℕ) (branch : Branch)
      → CaseAt code graph id mode scrutinee scope branches
      → head_at graph scrutinee ≡ node (kind.Lit l) args
      → branch_for (takes_literal l) branches ≡ Some branch
      → after ≡ write code (scope ++ zip (bound_by branch.pattern) []) graph id branch.body
      → Steps code graph id after
  constructor_branch : (mode : Mode) (scrutinee : ℕ) (scope : Scope) (branches : List Branch)
      (c : ConId) (args : List ℕ) (branch : Branch)
      → CaseAt code graph id mode scrutinee scope branches
      → head_at graph scrutinee ≡ node (kind.Cons c) args
      → branch_for (takes_constructor c) branches ≡ Some branch
      → after ≡ write code (scope ++ zip (bound_by branch.pattern) args) graph id branch.body
      → Steps code graph id after
  no_literal_branch : (mode : Mode) (scrutinee : ℕ) (scope : Scope) (branches : List Branch)
      (l : Lit) (args : List ℕ)
      → CaseAt code graph id mode scrutinee scope branches
      → head_at graph scrutinee ≡ node (kind.Lit l) args
      → branch_for (takes_literal l) branches ≡ None
      → after ≡ failing graph id → Steps code graph id after
  no_constructor_branch : (mode : Mode) (scrutinee : ℕ) (scope : Scope) (branches : List Branch)
      (c : ConId) (args : List ℕ)
      → CaseAt code graph id mode scrutinee scope branches
      → head_at graph scrutinee ≡ node (kind.Cons c) args
      → branch_for (takes_constructor c) branches ≡ None
      → after ≡ failing graph id → Steps code graph id after
  no_partial_branch : (mode : Mode) (scrutinee : ℕ) (scope : Scope) (branches : List Branch)
      (h : Head) (args : List ℕ)
      → CaseAt code graph id mode scrutinee scope branches
      → head_at graph scrutinee ≡ node (kind.Part h) args → after ≡ failing graph id
      → Steps code graph id after
  -- The free variable on which a flexible case distinction looks becomes what one of the branches
  -- asks for.
  narrowing : (scrutinee : ℕ) (scope : Scope) (branches : List Branch) (args : List ℕ)
      (branch : Branch)
      → CaseAt code graph id Flex scrutinee scope branches
      → head_at graph scrutinee ≡ node kind.Free args → Among branch branches
      → after ≡ bound_to graph (head_of graph scrutinee) branch.pattern
      → Steps code graph id after
  -- An application of a partial application is partial still, or becomes a whole call; an
  -- application of anything else fails.
  still_partial : (function argument : ℕ) (h : Head) (args : List ℕ) (arity : ℕ)
      → node_at graph id ≡ node kind.Apply (function ∷ argument ∷ [])
      → head_at graph function ≡ node (kind.Part h) args → arity_of code h ≡ Some arity
      → length (args ++ argument ∷ []) < arity
      → after ≡ put graph id (node (kind.Part h) (args ++ argument ∷ []))
      → Steps code graph id after
  whole : (function argument : ℕ) (h : Head) (args : List ℕ)
      → node_at graph id ≡ node kind.Apply (function ∷ argument ∷ [])
      → head_at graph function ≡ node (kind.Part h) args
      → arity_of code h ≡ Some (length (args ++ argument ∷ []))
      → after ≡ put graph id (node (kind_of_whole code h) (args ++ argument ∷ []))
      → Steps code graph id after
  not_applicable : (function argument : ℕ) → node_at graph id
      ≡ node kind.Apply (function ∷ argument ∷ [])
      → IsFalse (is_partial (head_at graph function).kind) → after ≡ failing graph id
      → Steps code graph id after
  -- An operation on integers becomes its result, if that is an integer of the language, or what a
  -- comparison answers; a division by 0 fails.
  number : (operation : Primitive) (args : List ℕ) (m n result : ℤ)
      → node_at graph id ≡ node (kind.Prim operation) args
      → kinds_of graph args ≡ kind.Lit (Int m) ∷ kind.Lit (Int n) ∷ []
      → number_of operation m n ≡ Some result → IsTrue (is_integer result)
      → after ≡ put graph id (alone (kind.Lit (Int result))) → Steps code graph id after
  test : (operation : Primitive) (args : List ℕ) (m n : ℤ) (answer : Bool)
      → node_at graph id ≡ node (kind.Prim operation) args
      → kinds_of graph args ≡ kind.Lit (Int m) ∷ kind.Lit (Int n) ∷ []
      → test_of operation m n ≡ Some answer
      → after ≡ telling code graph id answer → Steps code graph id after
  division_by_zero : (operation : Primitive) (args : List ℕ) (m n : ℤ)
      → node_at graph id ≡ node (kind.Prim operation) args
      → kinds_of graph args ≡ kind.Lit (Int m) ∷ kind.Lit (Int n) ∷ [] → IsTrue (divides operation)
      → IsTrue (int_eq n (pos 0))
      → after ≡ failing graph id → Steps code graph id after
  -- A character becomes its number, and a number becomes its character or fails.
  code_point : (args : List ℕ) (c : ℕ) → node_at graph id ≡ node (kind.Prim prim.Ord) args
      → kinds_of graph args ≡ kind.Lit (Char c) ∷ []
      → after ≡ put graph id (alone (kind.Lit (Int (pos c)))) → Steps code graph id after
  character : (args : List ℕ) (c : ℕ) → node_at graph id ≡ node (kind.Prim prim.Chr) args
      → kinds_of graph args ≡ kind.Lit (Int (pos c)) ∷ []
      → IsTrue (is_scalar c) → after ≡ put graph id (alone (kind.Lit (Char c)))
      → Steps code graph id after
  no_character : (args : List ℕ) (n : ℤ) → node_at graph id ≡ node (kind.Prim prim.Chr) args
      → kinds_of graph args ≡ kind.Lit (Int n) ∷ []
      → ((c : ℕ) → n ≡ pos c → IsFalse (is_scalar c)) → after ≡ failing graph id
      → Steps code graph id after
  -- An operation on arguments that aren't literals of its types fails.
  no_operands : (operation : Primitive) (args : List ℕ)
      → node_at graph id ≡ node (kind.Prim operation) args → IsTrue (is_on_literals operation)
      → IsFalse (are_operands operation (kinds_of graph args)) → after ≡ failing graph id
      → Steps code graph id after
  -- `==` compares two literals, a literal and a constructor, or two constructors; with a partial
  -- application it fails.
  compared_literals : (a b : ℕ) (l m : Lit) (us vs : List ℕ)
      → node_at graph id ≡ node (kind.Prim prim.Equal) (a ∷ b ∷ [])
      → head_at graph a ≡ node (kind.Lit l) us → head_at graph b ≡ node (kind.Lit m) vs
      → after ≡ telling code graph id (same_literal l m)
      → Steps code graph id after
  compared_mixed : (a b : ℕ) → node_at graph id ≡ node (kind.Prim prim.Equal) (a ∷ b ∷ [])
      → IsTrue (are_mixed (head_at graph a).kind (head_at graph b).kind)
      → after ≡ telling code graph id false → Steps code graph id after
  compared_unlike : (a b : ℕ) (c d : ConId) (us vs : List ℕ)
      → node_at graph id ≡ node (kind.Prim prim.Equal) (a ∷ b ∷ [])
      → head_at graph a ≡ node (kind.Cons c) us → head_at graph b ≡ node (kind.Cons d) vs
      → IsFalse (same_constructor c d)
      → after ≡ telling code graph id false → Steps code graph id after
  compared_alike : (a b : ℕ) (c d : ConId) (us vs : List ℕ)
      → node_at graph id ≡ node (kind.Prim prim.Equal) (a ∷ b ∷ [])
      → head_at graph a ≡ node (kind.Cons c) us → head_at graph b ≡ node (kind.Cons d) vs
      → IsTrue (same_constructor c d)
      → pairwise_comparison_step code.special graph id (zip us vs) ≡ alone_follows after
      → Steps code graph id after
  compared_partial : (a b : ℕ) → node_at graph id ≡ node (kind.Prim prim.Equal) (a ∷ b ∷ [])
      → IsTrue (is_partial (head_at graph a).kind || is_partial (head_at graph b).kind)
      → after ≡ failing graph id → Steps code graph id after
  -- `&` becomes True where both sides are True, and fails otherwise.
  both_true : (a b : ℕ) → node_at graph id ≡ node (kind.Prim prim.And) (a ∷ b ∷ [])
      → IsTrue (is_true code.special (head_at graph a).kind
      && is_true code.special (head_at graph b).kind) → after ≡ telling code graph id true
      → Steps code graph id after
  not_both_true : (a b : ℕ) → node_at graph id ≡ node (kind.Prim prim.And) (a ∷ b ∷ [])
      → IsFalse (is_true code.special (head_at graph a).kind
      && is_true code.special (head_at graph b).kind) → after ≡ failing graph id
      → Steps code graph id after
  -- An equation of a free variable with itself holds; an equation with another one makes it an Ind
  -- of that.
  same_variable : (a b : ℕ) (us vs : List ℕ) → node_at graph id
      ≡ node (kind.Prim prim.Unify) (a ∷ b ∷ []) → head_at graph a ≡ node kind.Free us
      → head_at graph b ≡ node kind.Free vs → head_of graph a ≡ head_of graph b
      → after ≡ telling code graph id true → Steps code graph id after
  two_variables : (a b : ℕ) (us vs : List ℕ) → node_at graph id
      ≡ node (kind.Prim prim.Unify) (a ∷ b ∷ []) → head_at graph a ≡ node kind.Free us
      → head_at graph b ≡ node kind.Free vs → head_of graph a ≢ head_of graph b
      → after ≡ telling code (put graph (head_of graph a) (renaming (head_of graph b))) id true
      → Steps code graph id after
  -- An equation of a free variable with a literal or a constructor makes the variable that literal
  -- or constructor; with arguments, these are equated with new free variables, and it fails if the
  -- variable is reached from them.
  bound_to_literal : (a b v other : ℕ) (l : Lit) (args : List ℕ)
      → node_at graph id ≡ node (kind.Prim prim.Unify) (a ∷ b ∷ [])
      → FreeBeside graph a b v other (kind.Lit l) args
      → after ≡ telling code (put graph v (renaming other)) id true
      → Steps code graph id after
  bound_to_constant : (a b v other : ℕ) (c : ConId)
      → node_at graph id ≡ node (kind.Prim prim.Unify) (a ∷ b ∷ [])
      → FreeBeside graph a b v other (kind.Cons c) []
      → after ≡ telling code (put graph v (renaming other)) id true
      → Steps code graph id after
  occurs : (a b v other : ℕ) (c : ConId) (arg : ℕ) (args : List ℕ)
      → node_at graph id ≡ node (kind.Prim prim.Unify) (a ∷ b ∷ [])
      → FreeBeside graph a b v other (kind.Cons c) (arg ∷ args)
      → IsTrue (occurs_in graph v (arg ∷ args)) → after ≡ failing graph id
      → Steps code graph id after
  imitation : (a b v other : ℕ) (c : ConId) (arg : ℕ) (args : List ℕ)
      → node_at graph id ≡ node (kind.Prim prim.Unify) (a ∷ b ∷ [])
      → FreeBeside graph a b v other (kind.Cons c) (arg ∷ args)
      → IsFalse (occurs_in graph v (arg ∷ args))
      → decomposition_step code.special (imitating graph v c (length args + 1)) id
      (zip (numbers (length graph) (length args + 1)) (arg ∷ args)) ≡ alone_follows after
      → Steps code graph id after
  -- An equation of two literals holds or fails; one of two like constructors becomes equations of
  -- their arguments; one of unlike constructors, of a literal and a constructor, or with a partial
  -- application fails.
  equal_literals : (a b : ℕ) (l m : Lit) (us vs : List ℕ)
      → node_at graph id ≡ node (kind.Prim prim.Unify) (a ∷ b ∷ [])
      → head_at graph a ≡ node (kind.Lit l) us → head_at graph b ≡ node (kind.Lit m) vs
      → IsTrue (same_literal l m) → after ≡ telling code graph id true
      → Steps code graph id after
  unlike_literals : (a b : ℕ) (l m : Lit) (us vs : List ℕ)
      → node_at graph id ≡ node (kind.Prim prim.Unify) (a ∷ b ∷ [])
      → head_at graph a ≡ node (kind.Lit l) us → head_at graph b ≡ node (kind.Lit m) vs
      → IsFalse (same_literal l m) → after ≡ failing graph id
      → Steps code graph id after
  decomposition : (a b : ℕ) (c d : ConId) (us vs : List ℕ)
      → node_at graph id ≡ node (kind.Prim prim.Unify) (a ∷ b ∷ [])
      → head_at graph a ≡ node (kind.Cons c) us → head_at graph b ≡ node (kind.Cons d) vs
      → IsTrue (same_constructor c d)
      → decomposition_step code.special graph id (zip us vs) ≡ alone_follows after
      → Steps code graph id after
  clash : (a b : ℕ) (c d : ConId) (us vs : List ℕ)
      → node_at graph id ≡ node (kind.Prim prim.Unify) (a ∷ b ∷ [])
      → head_at graph a ≡ node (kind.Cons c) us → head_at graph b ≡ node (kind.Cons d) vs
      → IsFalse (same_constructor c d) → after ≡ failing graph id
      → Steps code graph id after
  mixed : (a b : ℕ) → node_at graph id ≡ node (kind.Prim prim.Unify) (a ∷ b ∷ [])
      → IsTrue (are_mixed (head_at graph a).kind (head_at graph b).kind)
      → after ≡ failing graph id → Steps code graph id after
  with_partial : (a b : ℕ) → node_at graph id ≡ node (kind.Prim prim.Unify) (a ∷ b ∷ [])
      → IsTrue (is_partial (head_at graph a).kind || is_partial (head_at graph b).kind)
      → after ≡ failing graph id → Steps code graph id after
  -- A set function's call with a partial application in an argument becomes stuck.
  set_of_partial : (f : FunId) (args : List ℕ) → node_at graph id ≡ node (kind.SetCall f) args
      → IsFalse (are_data (values_of (map (spelled graph) args)))
      → after ≡ put graph id (alone kind.Stuck) → Steps code graph id after
