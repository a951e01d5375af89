-- What a look at an argument shows is what the argument needs.
use Rattle.std.proofs.Common.{◌≡◌, ℕ, ◌<◌, ◌≤◌, Bool, true, false, List, [], ◌∷◌, if◌then◌else◌, refl, ap, sym, ◌∙◌, subst, length, map}
use Rattle.cu_calculus.specs.declared.ConId.{ConId}
use Rattle.cu_calculus.specs.declared.Mode.TheVariants.{Flex, Rigid}
use Rattle.cu_calculus.specs.declared.builtin.Primitive.TheVariants as prim
use Rattle.cu_calculus.specs.Match.{same_constructor}
use Rattle.cu_machine.specs.declared.Kind.{Kind}
use Rattle.cu_machine.specs.declared.Kind.TheVariants as kind
use Rattle.cu_machine.specs.Graph.{Graph, head_at, head_of, node_at}
use Rattle.cu_machine.specs.Need.{Need, At, Dead, Done, Extent, Outermost, Throughout, Wait, before, first, free_at, free_of, free_within, need_at, need_within, operands, strict, unless_done, unless_free, unless_rigid, unless_true, waiting}
use Rattle.cu_machine.specs.Validity.{ArgumentsThere, IsAcyclic}
use Rattle.cu_machine.proofs.Tables.{free_table, need_table}
use Rattle.cu_step.specs.declared.need.Ask.{Ask}
use Rattle.cu_step.specs.declared.need.Ask.TheVariants as ask
use Rattle.cu_step.specs.declared.need.Look.{Look}
use Rattle.cu_step.specs.declared.need.Look.TheVariants as look
use Rattle.cu_step.specs.Inside.Walk.{LookFits, asked, entered, entered_as, height, inside_need, inside_of, is_inside, look_all, look_bound, look_head, look_inside, look_need, look_true, looked, marked_need, whole_as, whole_need}
use Rattle.cu_step.proofs.Heights.{head_lower}
use Rattle.cu_step.proofs.Needs.{before_done, ends_at, unless_assoc, unless_nothing, unless_there, waiting_all}

-- the need that a look at a head of this kind shows
abbrev shown : ConId → Graph → Kind → List ℕ → Look → Need
shown truth graph k args look.There = Done
shown truth graph k args look.Stuck = Wait []
shown truth graph k args (look.Free id) = Wait (id ∷ [])
shown truth graph k args (look.Node id a) = entered_as truth graph id a k args
shown truth graph k args look.Dead = Dead
shown truth graph k args (look.At id) = At id

abbrev part : ConId → Graph → Extent → ℕ → Need
part truth graph = need_within (length graph) truth graph

abbrev at : ConId → Graph → ℕ → Kind → List ℕ → Need
at truth graph id k args = need_at truth graph (part truth graph) id k args

one_first : (n e : Need) → unless_done (before n Done) e ≡ unless_done n e
one_first n e = ap (λ m. unless_done m e) (before_done n)

head_shown : (truth : ConId) (graph : Graph) (id : ℕ) (k : Kind) (args : List ℕ) → at truth graph id k args ≡ shown truth graph k args (look_head id k args)
unfolding asked
head_shown truth graph id (kind.Cons c) args = refl
head_shown truth graph id (kind.Lit l) args = refl
head_shown truth graph id (kind.Part h) args = refl
head_shown truth graph id kind.Free args = refl
head_shown truth graph id (kind.Call f) args = refl
head_shown truth graph id kind.Or args = refl
head_shown truth graph id (kind.Prim prim.Unify) args = refl
head_shown truth graph id (kind.Prim prim.And) args = refl
head_shown truth graph id (kind.Prim _) args = refl
head_shown truth graph id kind.Apply [] = refl
head_shown truth graph id kind.Apply (function ∷ args) = sym (one_first (strict graph (part truth graph) function) (At id))
head_shown truth graph id (kind.Case Rigid e) [] = refl
head_shown truth graph id (kind.Case Rigid e) (scrutinee ∷ values) =
    sym (
    one_first (strict graph (part truth graph) scrutinee) (At id)
    ∙ unless_assoc (part truth graph Outermost scrutinee) (unless_free (head_of graph scrutinee) (head_at graph scrutinee).kind) (At id))
head_shown truth graph id (kind.Case Flex e) [] = refl
head_shown truth graph id (kind.Case Flex e) (scrutinee ∷ values) = sym (one_first (part truth graph Outermost scrutinee) (At id))
head_shown truth graph id (kind.SetCall f) args =
    ap (λ n. unless_done (first (map (part truth graph Throughout) args)) (unless_done n (At id))) (waiting_all (free_within (length graph) graph) args)
head_shown truth graph id kind.Fail args = refl
head_shown truth graph id kind.Stuck args = refl
head_shown truth graph id kind.Ind args = refl

all_shown : (truth : ConId) (graph : Graph) (id : ℕ) (k : Kind) (args : List ℕ) → whole_as truth graph id k args ≡ shown truth graph k args (look_all id k args)
unfolding asked
all_shown truth graph id (kind.Cons c) args = sym (unless_nothing (first (map (part truth graph Throughout) args)))
all_shown truth graph id (kind.Part h) args = sym (unless_nothing (first (map (part truth graph Throughout) args)))
all_shown truth graph id (kind.Lit l) args = unless_nothing (at truth graph id (kind.Lit l) args) ∙ head_shown truth graph id (kind.Lit l) args
all_shown truth graph id kind.Free args = unless_nothing (at truth graph id kind.Free args) ∙ head_shown truth graph id kind.Free args
all_shown truth graph id (kind.Call f) args = unless_nothing (at truth graph id (kind.Call f) args) ∙ head_shown truth graph id (kind.Call f) args
all_shown truth graph id kind.Or args = unless_nothing (at truth graph id kind.Or args) ∙ head_shown truth graph id kind.Or args
all_shown truth graph id (kind.Prim operation) args = unless_nothing (at truth graph id (kind.Prim operation) args) ∙ head_shown truth graph id (kind.Prim operation) args
all_shown truth graph id kind.Apply args = unless_nothing (at truth graph id kind.Apply args) ∙ head_shown truth graph id kind.Apply args
all_shown truth graph id (kind.Case mode e) args = unless_nothing (at truth graph id (kind.Case mode e) args) ∙ head_shown truth graph id (kind.Case mode e) args
all_shown truth graph id (kind.SetCall f) args = unless_nothing (at truth graph id (kind.SetCall f) args) ∙ head_shown truth graph id (kind.SetCall f) args
all_shown truth graph id kind.Fail args = refl
all_shown truth graph id kind.Stuck args = refl
all_shown truth graph id kind.Ind args = refl

abbrev asks : ConId → Graph → ℕ → Kind → List ℕ → Need → Type 0
asks truth graph id k args e = unless_done (unless_done (at truth graph id k args) Done) e ≡ shown truth graph k args (look_head id k args)

asks_first : (truth : ConId) (graph : Graph) (id : ℕ) (k : Kind) (args : List ℕ) (e : Need) → (at truth graph id k args ≡ Done → ⊥) → asks truth graph id k args e
asks_first truth graph id k args e not_there = unless_there (at truth graph id k args) e not_there ∙ head_shown truth graph id k args

case_not_there : (n m : Need) (id : ℕ) → unless_done n (unless_done m (At id)) ≡ Done → ⊥
case_not_there n m id there = ends_at (unless_done n m) id (unless_assoc n m (At id) ∙ there)

bound_shown : (truth : ConId) (graph : Graph) (id : ℕ) (k : Kind) (args : List ℕ)
    → unless_done (unless_done (at truth graph id k args) Done) (unless_free id k) ≡ shown truth graph k args (look_bound id k args)
unfolding asked
bound_shown truth graph id kind.Free args = refl
bound_shown truth graph id (kind.Cons c) args = refl
bound_shown truth graph id (kind.Part h) args = refl
bound_shown truth graph id (kind.Lit l) args = refl
bound_shown truth graph id (kind.Call f) args = refl
bound_shown truth graph id kind.Or args = refl
bound_shown truth graph id (kind.Prim operation) args =
    unless_nothing (unless_done (at truth graph id (kind.Prim operation) args) Done) ∙ unless_nothing (at truth graph id (kind.Prim operation) args)
    ∙ head_shown truth graph id (kind.Prim operation) args
bound_shown truth graph id kind.Apply args =
    unless_nothing (unless_done (at truth graph id kind.Apply args) Done) ∙ unless_nothing (at truth graph id kind.Apply args) ∙ head_shown truth graph id kind.Apply args
bound_shown truth graph id (kind.Case mode e) args =
    unless_nothing (unless_done (at truth graph id (kind.Case mode e) args) Done) ∙ unless_nothing (at truth graph id (kind.Case mode e) args)
    ∙ head_shown truth graph id (kind.Case mode e) args
bound_shown truth graph id (kind.SetCall f) args =
    unless_nothing (unless_done (at truth graph id (kind.SetCall f) args) Done) ∙ unless_nothing (at truth graph id (kind.SetCall f) args)
    ∙ head_shown truth graph id (kind.SetCall f) args
bound_shown truth graph id kind.Fail args = refl
bound_shown truth graph id kind.Stuck args = refl
bound_shown truth graph id kind.Ind args = refl

is_true : (truth : ConId) (graph : Graph) (k : Kind) (args : List ℕ) (by : ℕ) (b : Bool)
    → (if b then Done else At by) ≡ shown truth graph k args (if b then look.There else look.At by)
is_true truth graph k args by true = refl
is_true truth graph k args by false = refl

true_shown : (truth : ConId) (graph : Graph) (by id : ℕ) (k : Kind) (args : List ℕ)
    → unless_done (unless_done (at truth graph id k args) Done) (unless_true truth by id k) ≡ shown truth graph k args (look_true truth by id k args)
unfolding asked
true_shown truth graph by id kind.Free args = refl
true_shown truth graph by id (kind.Cons c) args = is_true truth graph (kind.Cons c) args by (same_constructor c truth)
true_shown truth graph by id (kind.Part h) args = refl
true_shown truth graph by id (kind.Lit l) args = refl
true_shown truth graph by id (kind.Call f) args = refl
true_shown truth graph by id kind.Or args = refl
true_shown truth graph by id (kind.Prim operation) args = asks_first truth graph id (kind.Prim operation) args (At by) (λ there. ends_at (operands truth graph (part truth graph) id operation args) id there)
true_shown truth graph by id kind.Apply [] = refl
true_shown truth graph by id kind.Apply (function ∷ args) =
    asks_first truth graph id kind.Apply (function ∷ args) (At by) (λ there. ends_at (strict graph (part truth graph) function) id there)
true_shown truth graph by id (kind.Case mode e) [] = asks_first truth graph id (kind.Case mode e) [] (At by) (λ there. cc)
true_shown truth graph by id (kind.Case mode e) (scrutinee ∷ values) =
    asks_first truth graph id (kind.Case mode e) (scrutinee ∷ values) (At by) (λ there.
    case_not_there (part truth graph Outermost scrutinee) (unless_rigid mode (head_of graph scrutinee) (head_at graph scrutinee).kind) id there)
true_shown truth graph by id (kind.SetCall f) args =
    asks_first truth graph id (kind.SetCall f) args (At by) (λ there. case_not_there (first (map (part truth graph Throughout) args)) (waiting (free_of graph args)) id there)
true_shown truth graph by id kind.Fail args = refl
true_shown truth graph by id kind.Stuck args = refl
true_shown truth graph by id kind.Ind args = refl

inside_shown : (truth : ConId) (graph : Graph) (id : ℕ) (k : Kind) (args : List ℕ)
    → waiting (free_at (free_within (length graph) graph) id k args) ≡ shown truth graph k args (look_inside id k)
unfolding asked
inside_shown truth graph id (kind.Cons c) args =
    waiting_all (free_within (length graph) graph) args ∙ sym (unless_nothing (first (map (λ x. inside_of graph x) args)))
inside_shown truth graph id (kind.Part h) args =
    waiting_all (free_within (length graph) graph) args ∙ sym (unless_nothing (first (map (λ x. inside_of graph x) args)))
inside_shown truth graph id kind.Free args = refl
inside_shown truth graph id _ args = refl

-- ---- which node a look shows

abbrev marked_as : Bool → ConId → Graph → ℕ → Kind → List ℕ → Need
marked_as true truth graph id k args = waiting (free_at (free_within (length graph) graph) id k args)
marked_as false truth graph id k args = whole_as truth graph id k args

-- a look at a head shows the head itself, whose need is told by what the look asks
abbrev IsOf : ConId → Graph → ℕ → Kind → List ℕ → Look → Type 0
IsOf truth graph id k args (look.Node other a) = (other ≡ id) × (marked_as (is_inside a) truth graph id k args ≡ entered_as truth graph id a k args)
IsOf truth graph id k args (look.Free other) = (other ≡ id) × (waiting (free_at (free_within (length graph) graph) id k args) ≡ Wait (id ∷ []))
IsOf truth graph id k args _ = Unit {0}

of_head : (truth : ConId) (graph : Graph) (id : ℕ) (k : Kind) (args : List ℕ) → IsOf truth graph id k args (look_head id k args)
of_head truth graph id (kind.Prim prim.Unify) args = (refl, all_shown truth graph id (kind.Prim prim.Unify) args)
of_head truth graph id (kind.Prim prim.And) args = (refl, all_shown truth graph id (kind.Prim prim.And) args)
of_head truth graph id (kind.Prim operation) args = (refl, all_shown truth graph id (kind.Prim operation) args)
of_head truth graph id kind.Apply [] = tt
of_head truth graph id kind.Apply (function ∷ args) = (refl, all_shown truth graph id kind.Apply (function ∷ args))
of_head truth graph id (kind.Case Rigid e) [] = tt
of_head truth graph id (kind.Case Rigid e) (scrutinee ∷ values) = (refl, all_shown truth graph id (kind.Case Rigid e) (scrutinee ∷ values))
of_head truth graph id (kind.Case Flex e) [] = tt
of_head truth graph id (kind.Case Flex e) (scrutinee ∷ values) = (refl, all_shown truth graph id (kind.Case Flex e) (scrutinee ∷ values))
of_head truth graph id (kind.SetCall f) args = (refl, all_shown truth graph id (kind.SetCall f) args)
of_head truth graph id _ args = tt

of_bound : (truth : ConId) (graph : Graph) (id : ℕ) (k : Kind) (args : List ℕ) → IsOf truth graph id k args (look_bound id k args)
of_bound truth graph id kind.Free args = (refl, refl)
of_bound truth graph id k args = of_head truth graph id k args

of_if : (truth : ConId) (graph : Graph) (by id : ℕ) (k : Kind) (args : List ℕ) (b : Bool) → IsOf truth graph id k args (if b then look.There else look.At by)
of_if truth graph by id k args true = tt
of_if truth graph by id k args false = tt

of_true : (truth : ConId) (graph : Graph) (by id : ℕ) (k : Kind) (args : List ℕ) → IsOf truth graph id k args (look_true truth by id k args)
of_true truth graph by id (kind.Cons c) args = of_if truth graph by id (kind.Cons c) args (same_constructor c truth)
of_true truth graph by id (kind.Lit l) args = tt
of_true truth graph by id (kind.Part h) args = tt
of_true truth graph by id k args = of_bound truth graph id k args

of_all : (truth : ConId) (graph : Graph) (id : ℕ) (k : Kind) (args : List ℕ) → IsOf truth graph id k args (look_all id k args)
of_all truth graph id (kind.Cons c) args = (refl, all_shown truth graph id (kind.Cons c) args)
of_all truth graph id (kind.Part h) args = (refl, all_shown truth graph id (kind.Part h) args)
of_all truth graph id k args = of_head truth graph id k args

of_inside : (truth : ConId) (graph : Graph) (id : ℕ) (k : Kind) (args : List ℕ) → IsOf truth graph id k args (look_inside id k)
of_inside truth graph id (kind.Cons c) args = (refl, inside_shown truth graph id (kind.Cons c) args)
of_inside truth graph id (kind.Part h) args = (refl, inside_shown truth graph id (kind.Part h) args)
of_inside truth graph id kind.Free args = (refl, refl)
of_inside truth graph id _ args = tt

of_looked : (truth : ConId) (graph : Graph) (by : ℕ) (a : Ask) (id : ℕ) (k : Kind) (args : List ℕ) → IsOf truth graph id k args (looked truth by a id k args)
of_looked truth graph by ask.Head id k args = of_head truth graph id k args
of_looked truth graph by ask.Bound id k args = of_bound truth graph id k args
of_looked truth graph by ask.Truth id k args = of_true truth graph by id k args
of_looked truth graph by ask.All id k args = of_all truth graph id k args
of_looked truth graph by ask.Ground id k args = of_inside truth graph id k args
of_looked truth graph by ask.Inside id k args = of_inside truth graph id k args

-- a look at a head that shows a node shows the head itself
pub shown_node : (truth : ConId) (by : ℕ) (a : Ask) (id : ℕ) (k : Kind) (args : List ℕ) (other : ℕ) (b : Ask) → looked truth by a id k args ≡ look.Node other b → other ≡ id
shown_node truth by a id k args other b is =
    let of : IsOf truth [] id k args (look.Node other b) = subst (λ (l : Look). IsOf truth [] id k args l) is (of_looked truth [] by a id k args) in
    of.0

-- ---- what is asked

is_shown : (truth : ConId) (graph : Graph) (id : ℕ) (l : Look) → IsOf truth graph id (node_at graph id).kind (node_at graph id).args l
    → shown truth graph (node_at graph id).kind (node_at graph id).args l ≡ look_need truth graph l
unfolding entered
is_shown truth graph id (look.Node other a) of = rw of.0 refl
is_shown truth graph id look.There of = refl
is_shown truth graph id look.Stuck of = refl
is_shown truth graph id (look.Free other) of = refl
is_shown truth graph id look.Dead of = refl
is_shown truth graph id (look.At other) of = refl

is_marked : (b : Bool) (truth : ConId) (graph : Graph) (id : ℕ)
    → marked_need b truth graph id ≡ marked_as b truth graph id (node_at graph id).kind (node_at graph id).args
unfolding whole_need inside_need
is_marked true truth graph id = refl
is_marked false truth graph id = refl

fits_at : (truth : ConId) (graph : Graph) (top id : ℕ) (l : Look) → IsOf truth graph id (node_at graph id).kind (node_at graph id).args l
    → id < length graph → height graph id ≤ top → LookFits truth graph top l
unfolding entered inside_need
fits_at truth graph top id (look.Node other a) of below low =
    rw of.0 (below, is_marked (is_inside a) truth graph id ∙ of.1, low)
fits_at truth graph top id (look.Free other) of below low = rw of.0 (below, of.1, low)
fits_at truth graph top id look.There of below low = tt
fits_at truth graph top id look.Stuck of below low = tt
fits_at truth graph top id look.Dead of below low = tt
fits_at truth graph top id (look.At other) of below low = tt

asked_shown : (truth : ConId) (graph : Graph) (by : ℕ) (a : Ask) (argument : ℕ) → ArgumentsThere graph → IsAcyclic graph → argument < length graph
    → asked truth graph a by argument
    ≡ shown truth graph (head_at graph argument).kind (head_at graph argument).args
    (looked truth by a (head_of graph argument) (head_at graph argument).kind (head_at graph argument).args)
unfolding asked
asked_shown truth graph by ask.Head argument there acyclic below =
    need_table truth graph Outermost argument there (acyclic argument below) below
    ∙ unless_nothing (at truth graph (head_of graph argument) (head_at graph argument).kind (head_at graph argument).args)
    ∙ head_shown truth graph (head_of graph argument) (head_at graph argument).kind (head_at graph argument).args
asked_shown truth graph by ask.Bound argument there acyclic below =
    ap (λ n. unless_done n (unless_free (head_of graph argument) (head_at graph argument).kind)) (need_table truth graph Outermost argument there (acyclic argument below) below)
    ∙ bound_shown truth graph (head_of graph argument) (head_at graph argument).kind (head_at graph argument).args
asked_shown truth graph by ask.Truth argument there acyclic below =
    ap (λ n. unless_done n (unless_true truth by (head_of graph argument) (head_at graph argument).kind)) (need_table truth graph Outermost argument there (acyclic argument below) below)
    ∙ true_shown truth graph by (head_of graph argument) (head_at graph argument).kind (head_at graph argument).args
asked_shown truth graph by ask.All argument there acyclic below =
    need_table truth graph Throughout argument there (acyclic argument below) below
    ∙ all_shown truth graph (head_of graph argument) (head_at graph argument).kind (head_at graph argument).args
asked_shown truth graph by ask.Ground argument there acyclic below =
    ap waiting (free_table graph argument there (acyclic argument below) below)
    ∙ inside_shown truth graph (head_of graph argument) (head_at graph argument).kind (head_at graph argument).args
asked_shown truth graph by ask.Inside argument there acyclic below =
    ap waiting (free_table graph argument there (acyclic argument below) below)
    ∙ inside_shown truth graph (head_of graph argument) (head_at graph argument).kind (head_at graph argument).args

pub shown_need : (truth : ConId) (graph : Graph) (by : ℕ) (a : Ask) (argument : ℕ) → ArgumentsThere graph → IsAcyclic graph → argument < length graph
    → asked truth graph a by argument
    ≡ look_need truth graph (looked truth by a (head_of graph argument) (head_at graph argument).kind (head_at graph argument).args)
shown_need truth graph by a argument there acyclic below =
    asked_shown truth graph by a argument there acyclic below
    ∙ is_shown truth graph (head_of graph argument) (looked truth by a (head_of graph argument) (head_at graph argument).kind (head_at graph argument).args)
    (of_looked truth graph by a (head_of graph argument) (head_at graph argument).kind (head_at graph argument).args)

pub shown_fits : (truth : ConId) (graph : Graph) (by : ℕ) (a : Ask) (argument : ℕ) → ArgumentsThere graph → IsAcyclic graph → argument < length graph
    → LookFits truth graph (height graph argument) (looked truth by a (head_of graph argument) (head_at graph argument).kind (head_at graph argument).args)
shown_fits truth graph by a argument there acyclic below =
    let lower = head_lower (length graph) graph argument there acyclic below in
    fits_at truth graph (height graph argument) (head_of graph argument)
    (looked truth by a (head_of graph argument) (head_at graph argument).kind (head_at graph argument).args)
    (of_looked truth graph by a (head_of graph argument) (head_at graph argument).kind (head_at graph argument).args)
    lower.0 lower.1
