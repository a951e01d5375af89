-- A node that is needed is in the graph, and no goal variable's value stands at it.
use Rattle.std.proofs.Common.{◌≡◌, ℕ, zero, suc, ◌<◌, Bool, true, false, List, [], ◌∷◌, if◌then◌else◌, refl, sym, subst, true≢false, length, map, nat_lt, ltb-true}
use Rattle.std.specs.List.{list_all}
use Rattle.cu_calculus.specs.declared.ConId.{ConId}
use Rattle.cu_calculus.specs.declared.Mode.{Mode}
use Rattle.cu_calculus.specs.declared.Mode.TheVariants.{Flex, Rigid}
use Rattle.cu_calculus.specs.declared.builtin.Primitive.{Primitive}
use Rattle.cu_calculus.specs.declared.builtin.Primitive.TheVariants as prim
use Rattle.cu_calculus.specs.Match.{same_constructor}
use Rattle.cu_machine.specs.declared.Kind.{Kind}
use Rattle.cu_machine.specs.declared.Kind.TheVariants as kind
use Rattle.cu_machine.specs.Graph.{Graph, head_at, head_of, node_at}
use Rattle.cu_machine.specs.Need.{Extent, Outermost, Throughout, Need, At, Dead, Done, Wait, before, first, free_of, is_head, need_at, need_within, operands, rest_at, side, strict, unless_done, unless_free, unless_rigid, unless_true, waiting}
use Rattle.cu_machine.specs.Validity.{ArgumentsThere, is_plain}
use Rattle.cu_machine.proofs.DoneLaws.{then_first, then_second, within_is_head}
use Rattle.cu_machine.proofs.Frames.{Closed}
use Rattle.cu_machine.proofs.Fuel.{both_true, left_true, right_true}
use Rattle.cu_machine.proofs.Rows.{head_closed}

-- ---- which of two needs asks for a step

pub unless_done_at : (R : Type 0) (a b : Need) (i : ℕ) → (a ≡ At i → R) → (a ≡ Done → b ≡ At i → R) → unless_done a b ≡ At i → R
unless_done_at R Done b i one two same = two refl same
unless_done_at R Dead b i one two same = let none_left : ⊥ = cc in absurd none_left
unless_done_at R (Wait ids) b i one two same = let none_left : ⊥ = cc in absurd none_left
unless_done_at R (At j) b i one two same = one same

pub before_at : (R : Type 0) (a b : Need) (i : ℕ) → (a ≡ At i → R) → (b ≡ At i → R) → before a b ≡ At i → R
before_at R (At j) b i one two same = one same
before_at R Dead b i one two same = let none_left : ⊥ = cc in absurd none_left
before_at R Done b i one two same = two same
before_at R (Wait ids) (At j) i one two same = two same
before_at R (Wait ids) Done i one two same = let none_left : ⊥ = cc in absurd none_left
before_at R (Wait ids) Dead i one two same = let none_left : ⊥ = cc in absurd none_left
before_at R (Wait ids) (Wait others) i one two same = let none_left : ⊥ = cc in absurd none_left

pub first_at : (R : Type 0) (p : ℕ → Bool) (f : ℕ → Need) (xs : List ℕ) (i : ℕ) → ((x : ℕ) → p x ≡ true → f x ≡ At i → R) → list_all p xs ≡ true
    → first (map f xs) ≡ At i → R
first_at R p f [] i each all same = let none_left : ⊥ = cc in absurd none_left
first_at R p f (x ∷ xs) i each all same =
    before_at R (f x) (first (map f xs)) i (each x (left_true (p x) (list_all p xs) all)) (first_at R p f xs i each (right_true (p x) (list_all p xs) all)) same

pub before_done : (a b : Need) → before a b ≡ Done → (a ≡ Done) × (b ≡ Done)
before_done Done b same = (refl, same)
before_done Dead b same = let none_left : ⊥ = cc in absurd none_left
before_done (At j) b same = let none_left : ⊥ = cc in absurd none_left
before_done (Wait ids) (At j) same = let none_left : ⊥ = cc in absurd none_left
before_done (Wait ids) Done same = let none_left : ⊥ = cc in absurd none_left
before_done (Wait ids) Dead same = let none_left : ⊥ = cc in absurd none_left
before_done (Wait ids) (Wait others) same = let none_left : ⊥ = cc in absurd none_left

-- where nothing of a list is needed, each element has what follows from that
pub first_done : (q : ℕ → Bool) (f : ℕ → Need) (xs : List ℕ) → ((x : ℕ) → f x ≡ Done → q x ≡ true) → first (map f xs) ≡ Done → list_all q xs ≡ true
first_done q f [] each same = refl
first_done q f (x ∷ xs) each same =
    let parts = before_done (f x) (first (map f xs)) same in
    both_true (q x) (list_all q xs) (each x parts.0) (first_done q f xs each parts.1)

-- ---- what is ready to be rewritten

abbrev pub is_bound : Kind → Bool
is_bound (kind.Cons c) = true
is_bound (kind.Lit l) = true
is_bound (kind.Part h) = true
is_bound _ = false

abbrev pub has_head : Graph → ℕ → Bool
has_head graph x = is_head (head_at graph x).kind

abbrev pub has_bound_head : Graph → ℕ → Bool
has_bound_head graph x = is_bound (head_at graph x).kind

-- a rigid case distinction wants its scrutinee bound
abbrev pub is_ready_for : Mode → Kind → Bool
is_ready_for Flex k = is_head k
is_ready_for Rigid k = is_bound k

-- the heads that the rows look at are there
abbrev pub is_ready : Graph → Kind → List ℕ → Bool
is_ready graph (kind.Call f) args = true
is_ready graph kind.Or args = true
is_ready graph (kind.Case mode e) (scrutinee ∷ values) = is_ready_for mode (head_at graph scrutinee).kind
is_ready graph kind.Apply (function ∷ args) = has_bound_head graph function
is_ready graph (kind.Prim prim.Unify) args = list_all (has_head graph) args
is_ready graph (kind.Prim prim.And) args = true
is_ready graph (kind.Prim operation) args = list_all (has_bound_head graph) args
is_ready graph (kind.SetCall f) args = true
is_ready graph _ _ = false

pub bound_head : (id : ℕ) (k : Kind) → is_head k ≡ true → unless_free id k ≡ Done → is_bound k ≡ true
bound_head id (kind.Cons c) is same = refl
bound_head id (kind.Lit l) is same = refl
bound_head id (kind.Part h) is same = refl
bound_head id kind.Free is same = let none_left : ⊥ = cc in absurd none_left
bound_head id _ is same = let none_left : ⊥ = true≢false (sym is) in absurd none_left

pub ready_for : (mode : Mode) (id : ℕ) (k : Kind) → is_head k ≡ true → unless_rigid mode id k ≡ Done → is_ready_for mode k ≡ true
ready_for Flex id k is same = is
ready_for Rigid id k is same = bound_head id k is same

pub free_not_at : (id : ℕ) (k : Kind) (i : ℕ) → unless_free id k ≡ At i → ⊥
free_not_at id kind.Free i same = cc
free_not_at id _ i same = cc

pub rigid_not_at : (mode : Mode) (id : ℕ) (k : Kind) (i : ℕ) → unless_rigid mode id k ≡ At i → ⊥
rigid_not_at Rigid id k i same = free_not_at id k i same
rigid_not_at Flex id k i same = cc

pub true_at_if : (id i : ℕ) (b : Bool) → (if b then Done else At id) ≡ At i → id ≡ i
true_at_if id i true same = let none_left : ⊥ = cc in absurd none_left
true_at_if id i false same = cc

pub true_at : (truth : ConId) (id other : ℕ) (k : Kind) (i : ℕ) → unless_true truth id other k ≡ At i → id ≡ i
true_at truth id other (kind.Cons c) i same = true_at_if id i (same_constructor c truth) same
true_at truth id other kind.Free i same = let none_left : ⊥ = cc in absurd none_left
true_at truth id other _ i same = cc

pub waiting_not_at : (ids : List ℕ) (i : ℕ) → waiting ids ≡ At i → ⊥
waiting_not_at [] i same = cc
waiting_not_at (id ∷ ids) i same = cc

-- ---- the table

module _ (R : Type 0) (truth : ConId) (graph : Graph) (part : Extent → ℕ → Need) (p : ℕ → Bool) (id i : ℕ)
    (each : (extent : Extent) (x : ℕ) → p x ≡ true → part extent x ≡ At i → R)
    (done : (x : ℕ) → part Outermost x ≡ Done → is_head (head_at graph x).kind ≡ true) where
  pub strict_at : (x : ℕ) → p x ≡ true → strict graph part x ≡ At i → R
  strict_at x low same =
      unless_done_at R (part Outermost x) (unless_free (head_of graph x) (head_at graph x).kind) i (each Outermost x low)
      (λ there is. absurd (free_not_at (head_of graph x) (head_at graph x).kind i is)) same

  pub strict_done : (x : ℕ) → strict graph part x ≡ Done → has_bound_head graph x ≡ true
  strict_done x same =
      bound_head (head_of graph x) (head_at graph x).kind (done x (then_first (part Outermost x) (unless_free (head_of graph x) (head_at graph x).kind) same))
      (then_second (part Outermost x) (unless_free (head_of graph x) (head_at graph x).kind) same)

  pub operands_ready : (operation : Primitive) (args : List ℕ) → operands truth graph part id operation args ≡ Done → is_ready graph (kind.Prim operation) args ≡ true
  operands_ready prim.Unify args same = first_done (has_head graph) (part Outermost) args done same
  operands_ready prim.And args same = refl
  operands_ready _ args same = first_done (has_bound_head graph) (strict graph part) args strict_done same

  pub side_at : (id ≡ i → R) → (x : ℕ) → p x ≡ true → side truth graph part id x ≡ At i → R
  side_at own x low same =
      unless_done_at R (part Outermost x) (unless_true truth id (head_of graph x) (head_at graph x).kind) i (each Outermost x low)
      (λ there is. own (true_at truth id (head_of graph x) (head_at graph x).kind i is)) same

  pub operands_at : (operation : Primitive) (args : List ℕ) → (is_ready graph (kind.Prim operation) args ≡ true → id ≡ i → R) → list_all p args ≡ true
      → operands truth graph part id operation args ≡ At i → R
  operands_at prim.Unify args own low same = first_at R p (part Outermost) args i (each Outermost) low same
  operands_at prim.And args own low same = first_at R p (side truth graph part id) args i (side_at (own refl)) low same
  operands_at _ args own low same = first_at R p (strict graph part) args i strict_at low same

  pub table_at : (k : Kind) (args : List ℕ) → (is_plain k ≡ false → is_ready graph k args ≡ true → id ≡ i → R) → list_all p args ≡ true
      → need_at truth graph part id k args ≡ At i → R
  table_at (kind.Call f) args own low same = own refl refl cc
  table_at kind.Or args own low same = own refl refl cc
  table_at (kind.Prim operation) args own low same =
      unless_done_at R (operands truth graph part id operation args) (At id) i (operands_at operation args (own refl) low)
      (λ there is. own refl (operands_ready operation args there) cc) same
  table_at kind.Apply (function ∷ args) own low same =
      unless_done_at R (strict graph part function) (At id) i (strict_at function (left_true (p function) (list_all p args) low))
      (λ there is. own refl (strict_done function there) cc) same
  table_at (kind.Case mode e) (scrutinee ∷ values) own low same =
      let kept = unless_rigid mode (head_of graph scrutinee) (head_at graph scrutinee).kind in
      unless_done_at R (part Outermost scrutinee) (unless_done kept (At id)) i (each Outermost scrutinee (left_true (p scrutinee) (list_all p values) low))
      (λ there. unless_done_at R kept (At id) i (λ is. absurd (rigid_not_at mode (head_of graph scrutinee) (head_at graph scrutinee).kind i is)) (λ free is. own refl (ready_for mode (head_of graph scrutinee) (head_at graph scrutinee).kind (done scrutinee there) free) cc)) same
  table_at (kind.SetCall f) args own low same =
      unless_done_at R (first (map (part Throughout) args)) (unless_done (waiting (free_of graph args)) (At id)) i
      (first_at R p (part Throughout) args i (each Throughout) low)
      (λ there. unless_done_at R (waiting (free_of graph args)) (At id) i (λ is. absurd (waiting_not_at (free_of graph args) i is)) (λ free is. own refl refl cc)) same
  table_at _ args own low same = let none_left : ⊥ = cc in absurd none_left

  pub rest_at_at : (extent : Extent) (k : Kind) (args : List ℕ) → list_all p args ≡ true → rest_at part extent k args ≡ At i → R
  rest_at_at Throughout (kind.Cons c) args low same = first_at R p (part Throughout) args i (each Throughout) low same
  rest_at_at Throughout (kind.Part h) args low same = first_at R p (part Throughout) args i (each Throughout) low same
  rest_at_at _ _ args low same = let none_left : ⊥ = cc in absurd none_left

-- ---- needs

abbrev pub IsRedex : Graph → ℕ → Type 0
IsRedex graph i = (i < length graph) × (is_plain (node_at graph i).kind ≡ false) × (is_ready graph (node_at graph i).kind (node_at graph i).args ≡ true)

pub places_closed : (graph : Graph) → ArgumentsThere graph → Closed (λ x. nat_lt x (length graph)) graph
places_closed graph there x within = let less = ltb-true x (length graph) within in (less, there x less)

pub need_at_redex : (depth : ℕ) (truth : ConId) (graph : Graph) (extent : Extent) (x i : ℕ) → ArgumentsThere graph → nat_lt x (length graph) ≡ true
    → need_within depth truth graph extent x ≡ At i → IsRedex graph i
unfolding need_within
need_at_redex zero truth graph extent x i there within same = let none_left : ⊥ = cc in absurd none_left
need_at_redex (suc depth) truth graph extent x i there within same =
    let p = λ (y : ℕ). nat_lt y (length graph) in
    let part = need_within depth truth graph in
    let closed = places_closed graph there in
    let here : p (head_of graph x) ≡ true = head_closed p graph (length graph) x closed within in
    let args : list_all p (head_at graph x).args ≡ true = (closed (head_of graph x) here).1 in
    let each = λ (e : Extent) (y : ℕ) (low : p y ≡ true) (is : part e y ≡ At i). need_at_redex depth truth graph e y i there low is in
    let done = λ (y : ℕ) (is : part Outermost y ≡ Done). within_is_head depth truth graph y is in
    unless_done_at (IsRedex graph i) (need_at truth graph part (head_of graph x) (head_at graph x).kind (head_at graph x).args)
    (rest_at part extent (head_at graph x).kind (head_at graph x).args) i
    (table_at (IsRedex graph i) truth graph part p (head_of graph x) i each done (head_at graph x).kind (head_at graph x).args
    (λ unplain ready is. subst (λ (y : ℕ). IsRedex graph y) is (ltb-true (head_of graph x) (length graph) here, unplain, ready)) args)
    (λ there. rest_at_at (IsRedex graph i) truth graph part p (head_of graph x) i each done extent (head_at graph x).kind (head_at graph x).args args)
    same
