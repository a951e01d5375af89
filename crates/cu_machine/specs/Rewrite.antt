-- The step table: what becomes of a graph where a node is rewritten. A call's arguments are shared
-- by all their uses, which is call-time choice (Hussmann 1993); a flexible case distinction on a
-- free variable narrows it, once for each branch (Antoy, Echahed and Hanus 2000).
use Rattle.std.specs.Prelude.{ℕ, zero, suc, ◌+◌, Bool, true, false, ◌&&◌, List, [], ◌∷◌, ◌++◌, Option, None, Some, if◌then◌else◌, length, map, nat_eq, nat_lt, zip, ℤ, pos, negsuc, ◌+ℤ◌, ◌-ℤ◌, ◌*ℤ◌, int_lt, int_le}
use Rattle.std.specs.List.{list_any}
use Rattle.std.specs.Ordering.{int_eq}
use Rattle.cu_calculus.specs.declared.ConId.{ConId}
use Rattle.cu_calculus.specs.declared.FunId.{FunId}
use Rattle.cu_calculus.specs.declared.Head.{Head}
use Rattle.cu_calculus.specs.declared.Lit.{Lit}
use Rattle.cu_calculus.specs.declared.Lit.TheVariants.{Char, Int}
use Rattle.cu_calculus.specs.declared.builtin.Primitive.{Primitive}
use Rattle.cu_calculus.specs.declared.builtin.Primitive.TheVariants as prim
use Rattle.cu_calculus.specs.declared.builtin.Special.{Special}
use Rattle.cu_int.specs.Integers.{floor_quotient, floor_rest}
use Rattle.cu_calculus.specs.Code as flat
use Rattle.cu_calculus.specs.Code.{Branch, Code, Shallow, arity_of, expr_of, body_of}
use Rattle.cu_int.specs.Integers.{is_integer}
use Rattle.cu_calculus.specs.Literal.{is_scalar, same_literal}
use Rattle.cu_calculus.specs.Match.{same_constructor}
use Rattle.cu_calculus.specs.Shape.{are_data}
use Rattle.cu_calculus.specs.Value.{Values, values_of}
use Rattle.cu_calculus.specs.WellFormed.{bound_by}
use Rattle.cu_machine.specs.declared.Kind.{Kind}
use Rattle.cu_machine.specs.declared.Kind.TheVariants as kind
use Rattle.cu_machine.specs.Build.{Built, Fresh, Scope, Shared, after, build_alone, kind_of_whole, place_of, pushed, write, written}
use Rattle.cu_machine.specs.Graph.{Graph, Node, alone, head_at, head_of, node_at, put, renaming}
use Rattle.cu_machine.specs.Spell.{spelled}
use Rattle.cu_machine.specs.State.{free_nodes, numbers}

-- what becomes of a graph
pub data Move : Type 0 where
  -- These graphs follow, from left to right.
  Become : List Graph → Move
  -- The operation on these integers has a result that is no integer of the language.
  Overflows : Primitive → ℤ → ℤ → Move
  -- A search for all values of a function on these arguments begins.
  Collect : FunId → Values → Move

-- one graph follows
abbrev pub alone_follows : Graph → Move
alone_follows graph = Become (graph ∷ [])

-- the step that puts a node in the place of the node `id`
abbrev pub replacement_step : Graph → ℕ → Node → Move
replacement_step graph id node = alone_follows (put graph id node)

-- the step in which the node `id` fails
abbrev pub failing_step : Graph → ℕ → Move
failing_step graph id = replacement_step graph id (alone kind.Fail)

-- the step in which the node `id` becomes stuck
abbrev pub stuck_step : Graph → ℕ → Move
stuck_step graph id = replacement_step graph id (alone kind.Stuck)

-- the node of True or False
abbrev pub truth_node : Special → Bool → Node
truth_node special true = alone (kind.Cons special.truth)
truth_node special false = alone (kind.Cons special.falsity)

-- the step in which the node `id` becomes True or False
abbrev pub truth_step : Special → Graph → ℕ → Bool → Move
truth_step special graph id answer = replacement_step graph id (truth_node special answer)

-- ---- calls

-- the step of a call: the function's right side is built over it, where the parameters stand for
-- the arguments
abbrev pub call_step : Code → Graph → ℕ → List ℕ → Option flat.Body → Move
call_step code graph id args (Some (flat.Rule params body)) =
    alone_follows (write code (zip params args) graph id body)
call_step code graph id args _ = stuck_step graph id

-- ---- choices

-- the step of a choice: its left argument, and its right one
abbrev pub choice_step : Graph → ℕ → List ℕ → Move
choice_step graph id (left ∷ right ∷ []) =
    Become (put graph id (renaming left) ∷ put graph id (renaming right) ∷ [])
choice_step graph id _ = stuck_step graph id

-- ---- case distinctions

-- whether a branch is for this literal
abbrev pub takes_literal : Lit → Shallow → Bool
takes_literal l (flat.Exactly m) = same_literal l m
takes_literal l (flat.Built c xs) = false

-- whether a branch is for this constructor
abbrev pub takes_constructor : ConId → Shallow → Bool
takes_constructor c (flat.Exactly l) = false
takes_constructor c (flat.Built d xs) = same_constructor c d

-- the first branch whose pattern passes a test
abbrev pub branch_for : (Shallow → Bool) → List Branch → Option Branch
branch_for test [] = None
branch_for test (branch ∷ branches) = if test branch.pattern then Some branch
    else branch_for test branches

-- the step into a branch, if there is one: its body is built over the case distinction, where the
-- pattern's variables stand for the arguments
abbrev pub branch_step : Code → Scope → Graph → ℕ → List ℕ → Option Branch → Move
branch_step code scope graph id args None = failing_step graph id
branch_step code scope graph id args (Some branch) =
    alone_follows (write code (scope ++ zip (bound_by branch.pattern) args) graph id branch.body)

-- a graph in which a free variable becomes what a pattern asks for: a literal, or a constructor
-- over new free variables
abbrev pub bound_to : Graph → ℕ → Shallow → Graph
bound_to graph v (flat.Exactly l) = put graph v (alone (kind.Lit l))
bound_to graph v (flat.Built c xs) =
    put (graph ++ free_nodes (length xs)) v
    (record { kind = kind.Cons c; args = numbers (length graph) (length xs) })

-- the step of narrowing: the free variable `v` becomes what each branch asks for
abbrev pub narrowing_step : Graph → ℕ → List Branch → Move
narrowing_step graph v branches = Become (map (λ branch. bound_to graph v branch.pattern) branches)

-- The step of a case distinction, by the head of its scrutinee. On a free variable the distinction
-- is a flexible one, since a rigid one waits there.
abbrev pub scrutinee_step : Code → Scope → Graph → ℕ → List Branch → ℕ → Kind → List ℕ → Move
scrutinee_step code scope graph id branches v (kind.Lit l) args =
    branch_step code scope graph id [] (branch_for (takes_literal l) branches)
scrutinee_step code scope graph id branches v (kind.Cons c) args =
    branch_step code scope graph id args (branch_for (takes_constructor c) branches)
scrutinee_step code scope graph id branches v (kind.Part h) args = failing_step graph id
scrutinee_step code scope graph id branches v kind.Free args = narrowing_step graph v branches
scrutinee_step code scope graph id branches v _ _ = stuck_step graph id

-- the step of a case distinction of the code, over the values that its node keeps
abbrev pub case_step : Code → Graph → ℕ → ℕ → List ℕ → Option flat.Expr → Move
case_step code graph id scrutinee values (Some (flat.Case mode variables e branches)) =
    scrutinee_step code (zip variables values) graph id branches (head_of graph scrutinee)
    (head_at graph scrutinee).kind
    (head_at graph scrutinee).args
case_step code graph id scrutinee values _ = stuck_step graph id

-- ---- applications

-- what a partial application becomes with these arguments: a partial application still, or a whole
-- call
abbrev pub extended : Code → Head → List ℕ → Option ℕ → Node
extended code h args None = alone kind.Stuck
extended code h args (Some arity) =
    if nat_lt (length args) arity then record { kind = kind.Part h; args = args }
    else record { kind = kind_of_whole code h; args = args }

-- the step of an application, by the head of what is applied: only a partial application is
abbrev pub application_step : Code → Graph → ℕ → ℕ → Kind → List ℕ → Move
application_step code graph id argument (kind.Part h) args =
    replacement_step graph id (extended code h (args ++ argument ∷ []) (arity_of code h))
application_step code graph id argument _ _ = failing_step graph id

-- ---- numbers and characters

-- the step of an operation with this result: an integer of the language, or an overflow
abbrev pub integer_step : Graph → ℕ → Primitive → ℤ → ℤ → ℤ → Move
integer_step graph id operation m n result =
    if is_integer result then replacement_step graph id (alone (kind.Lit (Int result)))
    else Overflows operation m n

-- the step of an operation on two integers
abbrev pub arithmetic_step : Special → Graph → ℕ → Primitive → ℤ → ℤ → Move
arithmetic_step special graph id prim.Add m n = integer_step graph id prim.Add m n (m +ℤ n)
arithmetic_step special graph id prim.Sub m n = integer_step graph id prim.Sub m n (m -ℤ n)
arithmetic_step special graph id prim.Mul m n = integer_step graph id prim.Mul m n (m *ℤ n)
arithmetic_step special graph id prim.Div m n = if int_eq n (pos 0) then failing_step graph id
    else integer_step graph id prim.Div m n (floor_quotient m n)
arithmetic_step special graph id prim.Mod m n = if int_eq n (pos 0) then failing_step graph id
    else integer_step graph id prim.Mod m n (floor_rest m n)
arithmetic_step special graph id prim.Less m n = truth_step special graph id (int_lt m n)
arithmetic_step special graph id prim.AtMost m n = truth_step special graph id (int_le m n)
arithmetic_step special graph id prim.Greater m n = truth_step special graph id (int_lt n m)
arithmetic_step special graph id prim.AtLeast m n = truth_step special graph id (int_le n m)
arithmetic_step special graph id _ m n = failing_step graph id

-- the step to the character of a number, where there is one
abbrev pub character_step : Graph → ℕ → ℤ → Move
character_step graph id (pos n) =
    if is_scalar n then replacement_step graph id (alone (kind.Lit (Char n)))
    else failing_step graph id
character_step graph id (negsuc n) = failing_step graph id

-- the step of an operation on literals; on anything else it fails
abbrev pub literal_step : Special → Graph → ℕ → Primitive → List Kind → Move
literal_step special graph id operation (kind.Lit (Int m) ∷ kind.Lit (Int n) ∷ []) =
    arithmetic_step special graph id operation m n
literal_step special graph id prim.Ord (kind.Lit (Char c) ∷ []) =
    replacement_step graph id (alone (kind.Lit (Int (pos c))))
literal_step special graph id prim.Chr (kind.Lit (Int n) ∷ []) = character_step graph id n
literal_step special graph id _ _ = failing_step graph id

-- ---- equality and equations

-- nodes of a kind, one over each pair
abbrev pub pair_nodes : Kind → List (ℕ × ℕ) → List Node
pair_nodes each [] = []
pair_nodes each ((a, b) ∷ pairs) = record { kind = each; args = a ∷ b ∷ [] } ∷ pair_nodes each pairs

-- Nodes of a kind that join nodes from the right: there is one at `id` and `more` after it; the new
-- nodes begin at `next`, and the outermost is still to be placed.
abbrev pub joined_from_right : Kind → ℕ → ℕ → ℕ → Built
joined_from_right joint next id zero = record { parts = []; top = Shared id }
joined_from_right joint next id (suc more) =
    let rest = joined_from_right joint next (id + 1) more in
    record {
      parts = pushed rest;
      top = Fresh (record { kind = joint; args = id ∷ place_of next rest ∷ [] });
    }

-- Nodes of the kind `each` over pairs: a single one over a single pair, else nodes that are pushed
-- from the left, and then joined from the right by nodes of the kind `joint`.
abbrev pub build_pairs : Kind → Kind → ℕ → ℕ × ℕ → List (ℕ × ℕ) → Built
build_pairs each joint next (a, b) [] = build_alone (record { kind = each; args = a ∷ b ∷ [] })
build_pairs each joint next pair (other ∷ pairs) =
    let nodes = pair_nodes each (pair ∷ other ∷ pairs) in
    after nodes (joined_from_right joint (next + length nodes) next (length pairs + 1))

-- the step on two like constructors: nodes over their arguments in pairs are built over the node
-- `id`, or True where there are no arguments
abbrev pub pairwise_step : Special → Kind → Kind → Graph → ℕ → List (ℕ × ℕ) → Move
pairwise_step special each joint graph id [] = truth_step special graph id true
pairwise_step special each joint graph id (pair ∷ pairs) =
    alone_follows (written graph id (build_pairs each joint (length graph) pair pairs))

-- the step of `==` on two like constructors: comparisons of their arguments, joined by calls of
-- `&&`
abbrev pub pairwise_comparison_step : Special → Graph → ℕ → List (ℕ × ℕ) → Move
pairwise_comparison_step special graph id pairs =
    pairwise_step special (kind.Prim prim.Equal) (kind.Call special.both) graph id pairs

-- the step of `==`, by the heads of its sides; on a partial application it fails
abbrev pub comparison_step : Special → Graph → ℕ → Kind → List ℕ → Kind → List ℕ → Move
comparison_step special graph id (kind.Cons c) us (kind.Cons d) vs =
    if same_constructor c d then pairwise_comparison_step special graph id (zip us vs)
    else truth_step special graph id false
comparison_step special graph id (kind.Lit l) us (kind.Lit m) vs =
    truth_step special graph id (same_literal l m)
comparison_step special graph id (kind.Lit l) us (kind.Cons d) vs =
    truth_step special graph id false
comparison_step special graph id (kind.Cons c) us (kind.Lit m) vs =
    truth_step special graph id false
comparison_step special graph id _ _ _ _ = failing_step graph id

-- whether a node of this kind is True
abbrev pub is_true : Special → Kind → Bool
is_true special (kind.Cons c) = same_constructor c special.truth
is_true special _ = false

-- the step of `&`, by the heads of its sides
abbrev pub conjunction_step : Special → Graph → ℕ → Kind → Kind → Move
conjunction_step special graph id a b = if is_true special a && is_true special b
    then truth_step special graph id true else failing_step graph id

-- whether a free variable is a head, or is reached from it by constructors and Inds; `part` says so
-- of its arguments
abbrev pub occurs_at : (ℕ → Bool) → ℕ → ℕ → Kind → List ℕ → Bool
occurs_at part v id kind.Free args = nat_eq v id
occurs_at part v id (kind.Cons c) args = list_any part args
occurs_at part v id _ _ = false

-- whether a free variable is reached from a node by constructors and Inds; the first number bounds
-- how deep the graph is looked at
unfoldable pub occurs_within : ℕ → Graph → ℕ → ℕ → Bool
occurs_within zero graph v id = false
occurs_within (suc depth) graph v id =
    occurs_at (occurs_within depth graph v) v (head_of graph id) (head_at graph id).kind
    (head_at graph id).args

-- whether a free variable is reached from one of several nodes by constructors and Inds
abbrev pub occurs_in : Graph → ℕ → List ℕ → Bool
occurs_in graph v ids = list_any (occurs_within (length graph) graph v) ids

-- the step of `=:=` on two like constructors: equations of their arguments, joined by `&`
abbrev pub decomposition_step : Special → Graph → ℕ → List (ℕ × ℕ) → Move
decomposition_step special graph id pairs =
    pairwise_step special (kind.Prim prim.Unify) (kind.Prim prim.And) graph id pairs

-- the step in which a free variable becomes an Ind of another node, and the equation holds
abbrev pub binding_step : Special → Graph → ℕ → ℕ → ℕ → Move
binding_step special graph id v other =
    replacement_step (put graph v (renaming other)) id (truth_node special true)

-- The step of an equation of a free variable with a constructor. Without arguments the variable
-- becomes an Ind of it. With arguments the variable becomes the constructor over new free
-- variables, which are equated with the arguments; if it is reached from these, the equation fails.
abbrev pub imitation_step : Special → Graph → ℕ → ℕ → ℕ → ConId → List ℕ → Move
imitation_step special graph id v other c [] = binding_step special graph id v other
imitation_step special graph id v other c (arg ∷ args) =
    if occurs_in graph v (arg ∷ args) then failing_step graph id
    else
    let fresh = numbers (length graph) (length args + 1) in
    decomposition_step special (put (graph ++ free_nodes (length args + 1)) v
    (record { kind = kind.Cons c; args = fresh })) id (zip fresh (arg ∷ args))

-- the step of `=:=`, by the heads of its sides and their indices; a partial application equals
-- nothing, and a literal equals no constructor
abbrev pub unification_step : Special → Graph → ℕ → ℕ → Kind → List ℕ → ℕ → Kind → List ℕ → Move
unification_step special graph id v kind.Free us w kind.Free vs =
    if nat_eq v w then truth_step special graph id true else binding_step special graph id v w
unification_step special graph id v kind.Free us w (kind.Lit m) vs =
    binding_step special graph id v w
unification_step special graph id v (kind.Lit l) us w kind.Free vs =
    binding_step special graph id w v
unification_step special graph id v kind.Free us w (kind.Cons d) vs =
    imitation_step special graph id v w d vs
unification_step special graph id v (kind.Cons c) us w kind.Free vs =
    imitation_step special graph id w v c us
unification_step special graph id v (kind.Cons c) us w (kind.Cons d) vs =
    if same_constructor c d then decomposition_step special graph id (zip us vs)
    else failing_step graph id
unification_step special graph id v (kind.Lit l) us w (kind.Lit m) vs =
    if same_literal l m then truth_step special graph id true else failing_step graph id
unification_step special graph id v _ _ w _ _ = failing_step graph id

-- ---- set functions

-- the step of a set function's call: a search begins, unless a partial application in an argument
-- leaves the call stuck
abbrev pub set_call_step : Graph → ℕ → FunId → Values → Move
set_call_step graph id f arguments =
    if are_data arguments then Collect f arguments else stuck_step graph id

-- ---- all rows

-- the step of a built-in operation on its arguments
abbrev pub operation_step : Special → Graph → ℕ → Primitive → List ℕ → Move
operation_step special graph id prim.Equal (a ∷ b ∷ []) =
    comparison_step special graph id (head_at graph a).kind (head_at graph a).args
    (head_at graph b).kind (head_at graph b).args
operation_step special graph id prim.Unify (a ∷ b ∷ []) =
    unification_step special graph id (head_of graph a) (head_at graph a).kind
    (head_at graph a).args (head_of graph b) (head_at graph b).kind (head_at graph b).args
operation_step special graph id prim.And (a ∷ b ∷ []) =
    conjunction_step special graph id (head_at graph a).kind (head_at graph b).kind
operation_step special graph id prim.Equal _ = stuck_step graph id
operation_step special graph id prim.Unify _ = stuck_step graph id
operation_step special graph id prim.And _ = stuck_step graph id
operation_step special graph id operation args =
    literal_step special graph id operation (map (λ arg. (head_at graph arg).kind) args)

-- what becomes of a graph where the node `id`, of this kind and with these arguments, is rewritten
abbrev pub rewrite_step : Code → Graph → ℕ → Kind → List ℕ → Move
rewrite_step code graph id (kind.Call f) args = call_step code graph id args (body_of code f)
rewrite_step code graph id kind.Or args = choice_step graph id args
rewrite_step code graph id (kind.Case mode e) (scrutinee ∷ values) =
    case_step code graph id scrutinee values (expr_of code (record { 0 = e }))
rewrite_step code graph id kind.Apply (function ∷ argument ∷ []) =
    application_step code graph id argument (head_at graph function).kind
    (head_at graph function).args
rewrite_step code graph id (kind.Prim operation) args =
    operation_step code.special graph id operation args
rewrite_step code graph id (kind.SetCall f) args =
    set_call_step graph id f (values_of (map (spelled graph) args))
rewrite_step code graph id _ _ = stuck_step graph id

-- what becomes of a graph where the node `id` is rewritten
abbrev pub move : Code → Graph → ℕ → Move
move code graph id = rewrite_step code graph id (node_at graph id).kind (node_at graph id).args
