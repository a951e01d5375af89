-- What the value of a node needs: the node that is to be rewritten next, found from this node on.
-- The strategy is needed narrowing (Antoy, Echahed and Hanus, A needed narrowing strategy, 2000)
-- with residuation for what is rigid, as in the Curry Report's operational semantics. Beyond the
-- paper, rules may overlap, by a choice; a variable is bound in one step and the call rewritten in
-- the next, so that a step of the paper is two or more here; and a value is needed whole, not to
-- its head alone.
use Rattle.std.specs.Prelude.{ℕ, zero, suc, List, [], ◌∷◌, Bool, true, false, map, length, if◌then◌else◌}
use Rattle.cu_calculus.specs.declared.Mode.{Mode}
use Rattle.cu_calculus.specs.declared.Mode.TheVariants.{Flex, Rigid}
use Rattle.cu_calculus.specs.declared.builtin.Primitive.{Primitive}
use Rattle.cu_calculus.specs.declared.builtin.Primitive.TheVariants as prim
use Rattle.cu_calculus.specs.declared.ConId.{ConId}
use Rattle.cu_calculus.specs.Match.{same_constructor}
use Rattle.cu_machine.specs.declared.Kind.{Kind}
use Rattle.cu_machine.specs.declared.Kind.TheVariants as kind
use Rattle.cu_machine.specs.Graph.{Graph, head_at, head_of}
use Rattle.cu_machine.specs.Places.{joined}

-- what the value of a node needs
pub data Need : Type 0 where
  -- The value needs nothing: it is there.
  Done : Need
  -- The value never comes: the node has none.
  Dead : Need
  -- The value waits for the free variables with these indices.
  Wait : List ℕ → Need
  -- The value needs that the node with this index is rewritten.
  At : ℕ → Need

-- How much of a value is needed: its head, or all of it.
pub data Extent : Type 0 where
  Outermost : Extent
  Throughout : Extent

-- the need of two nodes, the left one first: the first that asks for a step or has no value
-- decides, and waits are joined
abbrev pub before : Need → Need → Need
before (At id) other = At id
before Dead other = Dead
before Done other = other
before (Wait ids) Done = Wait ids
before (Wait ids) Dead = Dead
before (Wait ids) (Wait others) = Wait (joined ids others)
before (Wait ids) (At id) = At id

-- the need of several nodes, looked at from left to right
abbrev pub first : List Need → Need
first [] = Done
first (need ∷ needs) = before need (first needs)

-- a need, or the other one where this is nothing
abbrev pub unless_done : Need → Need → Need
unless_done Done other = other
unless_done Dead other = Dead
unless_done (Wait ids) other = Wait ids
unless_done (At id) other = At id

-- what a head needs to be bound: a free variable is waited for, and any other head is there
abbrev pub unless_free : ℕ → Kind → Need
unless_free id kind.Free = Wait (id ∷ [])
unless_free id _ = Done

-- what the head of a scrutinee needs: a rigid case distinction waits for a free variable, and a
-- flexible one doesn't
abbrev pub unless_rigid : Mode → ℕ → Kind → Need
unless_rigid Rigid id k = unless_free id k
unless_rigid Flex id k = Done

-- what a side of `&` needs: True is there, a free variable is waited for, and for any other head
-- the node `id` of `&` itself is rewritten, which fails
abbrev pub unless_true : ConId → ℕ → ℕ → Kind → Need
unless_true truth id side (kind.Cons c) = if same_constructor c truth then Done else At id
unless_true truth id side kind.Free = Wait (side ∷ [])
unless_true truth id side _ = At id

-- what an argument needs so that its head is there and bound, where `part` says what arguments need
abbrev pub strict : Graph → (Extent → ℕ → Need) → ℕ → Need
strict graph part id =
    unless_done (part Outermost id) (unless_free (head_of graph id) (head_at graph id).kind)

-- what an argument of `&` needs, where `part` says what arguments need
abbrev pub side : ConId → Graph → (Extent → ℕ → Need) → ℕ → ℕ → Need
side truth graph part id argument =
    unless_done (part Outermost argument)
    (unless_true truth id (head_of graph argument) (head_at graph argument).kind)

-- What the arguments of a built-in operation need: `=:=` wants the heads of its sides, `&` wants
-- them True, and the other operations want them bound.
abbrev pub operands : ConId → Graph → (Extent → ℕ → Need) → ℕ → Primitive → List ℕ → Need
operands truth graph part id prim.Unify args = first (map (part Outermost) args)
operands truth graph part id prim.And args = first (map (side truth graph part id) args)
operands truth graph part id _ args = first (map (strict graph part) args)

-- the need that waits for free variables, where there are some
abbrev pub waiting : List ℕ → Need
waiting [] = Done
waiting (id ∷ ids) = Wait (id ∷ ids)

-- the free variables in several values, in the order in which they are met; `part` gives those of
-- one
abbrev pub all_free : (ℕ → List ℕ) → List ℕ → List ℕ
all_free part [] = []
all_free part (id ∷ ids) = joined (part id) (all_free part ids)

-- the free variables in the value of a head, where `part` gives those of its arguments
abbrev pub free_at : (ℕ → List ℕ) → ℕ → Kind → List ℕ → List ℕ
free_at part id kind.Free args = id ∷ []
free_at part id (kind.Cons c) args = all_free part args
free_at part id (kind.Part h) args = all_free part args
free_at part id _ _ = []

-- The free variables in the value of a node. The first number bounds how deep the graph is looked
-- at.
unfoldable pub free_within : ℕ → Graph → ℕ → List ℕ
free_within zero graph id = []
free_within (suc depth) graph id =
    free_at (free_within depth graph) (head_of graph id) (head_at graph id).kind
    (head_at graph id).args

-- the free variables in the values of several nodes
abbrev pub free_of : Graph → List ℕ → List ℕ
free_of graph ids = all_free (free_within (length graph) graph) ids

-- whether a node of this kind is the head of a value, or a free variable, which may stay one
abbrev pub is_head : Kind → Bool
is_head (kind.Cons c) = true
is_head (kind.Lit l) = true
is_head (kind.Part h) = true
is_head kind.Free = true
is_head _ = false

-- The table of needs: what the node `id`, which is no Ind, needs so that the head of its value is
-- there; `part` says what its arguments need.
abbrev pub need_at : ConId → Graph → (Extent → ℕ → Need) → ℕ → Kind → List ℕ → Need
need_at truth graph part id (kind.Cons c) args = Done
need_at truth graph part id (kind.Lit l) args = Done
need_at truth graph part id (kind.Part h) args = Done
need_at truth graph part id kind.Free args = Done
need_at truth graph part id (kind.Call f) args = At id
need_at truth graph part id kind.Or args = At id
need_at truth graph part id (kind.Prim operation) args =
    unless_done (operands truth graph part id operation args) (At id)
need_at truth graph part id kind.Apply (function ∷ args) =
    unless_done (strict graph part function) (At id)
need_at truth graph part id (kind.Case mode e) (scrutinee ∷ values) =
    unless_done (part Outermost scrutinee)
    (unless_done (unless_rigid mode (head_of graph scrutinee) (head_at graph scrutinee).kind)
    (At id))
need_at truth graph part id (kind.SetCall f) args =
    unless_done (first (map (part Throughout) args))
    (unless_done (waiting (free_of graph args)) (At id))
need_at truth graph part id kind.Fail args = Dead
need_at truth graph part id kind.Stuck args = Wait []
-- an Ind that leads nowhere, and a node without the arguments of its kind
need_at truth graph part id _ _ = Wait []

-- what else a node needs where its whole value is wanted: the whole values of the arguments of a
-- constructor or a partial application
abbrev pub rest_at : (Extent → ℕ → Need) → Extent → Kind → List ℕ → Need
rest_at part Throughout (kind.Cons c) args = first (map (part Throughout) args)
rest_at part Throughout (kind.Part h) args = first (map (part Throughout) args)
rest_at part _ _ _ = Done

-- What a node needs. The first number bounds how deep the graph is looked at; past it a node waits
-- for no variable.
unfoldable pub need_within : ℕ → ConId → Graph → Extent → ℕ → Need
need_within zero truth graph extent id = Wait []
need_within (suc depth) truth graph extent id =
    unless_done (need_at truth graph (need_within depth truth graph) (head_of graph id)
    (head_at graph id).kind (head_at graph id).args)
    (rest_at (need_within depth truth graph) extent (head_at graph id).kind (head_at graph id).args)

-- what a node needs so that the head of its value is there
abbrev pub need : ConId → Graph → ℕ → Need
need truth graph id = need_within (length graph) truth graph Outermost id

-- what a node needs so that its whole value is there
abbrev pub need_all : ConId → Graph → ℕ → Need
need_all truth graph id = need_within (length graph) truth graph Throughout id
