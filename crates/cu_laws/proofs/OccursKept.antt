-- A free variable that is equated with a constructor in whose arguments it occurs would have a
-- value greater than itself.
use Rattle.std.proofs.Common.{◌≡◌, ℕ, zero, suc, ◌+◌, ◌≤◌, inl, inr, Bool, true, List, [], ◌∷◌, refl, ap, sym, ◌∙◌, length, eqb-true, true≢false, arith}
use Rattle.std.specs.List.{list_any}
use Rattle.std.proofs.lemmas.Bool.{and_parts}
use Rattle.cu_calculus.specs.declared.ConId.{ConId}
use Rattle.cu_calculus.specs.declared.builtin.Primitive.TheVariants as prim
use Rattle.cu_calculus.specs.Code.{Code}
use Rattle.cu_calculus.specs.Gives.{Claim}
use Rattle.cu_calculus.specs.Shape.{are_total, is_data, is_total}
use Rattle.cu_calculus.specs.Value as value
use Rattle.cu_calculus.specs.Value.{Value, Values}
use Rattle.cu_machine.specs.declared.Kind.{Kind}
use Rattle.cu_machine.specs.declared.Kind.TheVariants as kind
use Rattle.cu_machine.specs.Graph.{Graph, head_at, head_of, node_at}
use Rattle.cu_machine.specs.Rewrite.{occurs_at, occurs_in, occurs_within}
use Rattle.cu_machine.specs.Steps.{FreeBeside, node, on_the_left, on_the_right}
use Rattle.cu_machine.proofs.Frames.{either}
use Rattle.cu_laws.specs.Good.{Assignment, Loose}
use Rattle.cu_laws.proofs.AnswerKept.{sides_equal}
use Rattle.cu_laws.proofs.Heads.{values_at}
use Rattle.cu_laws.proofs.Known.{is_known}
use Rattle.cu_laws.proofs.LooseNodes.{head_above, head_most}
use Rattle.cu_laws.proofs.Rising.{total_above}

-- how many constructors stand in a value
abbrev mutual
  size : Value → ℕ
  size (value.Constructed c vs) = suc (sizes vs)
  size _ = 0

  sizes : Values → ℕ
  sizes value.NoValue = 0
  sizes (value.MoreValues v vs) = size v + sizes vs

module _ (program : Code) (claims : List Claim) (graph : Graph) (assigned : Assignment) (loose : Loose program claims graph assigned) (v : ℕ) where
  -- one of the places reaches the variable
  any_size : (part : ℕ → Bool) (args : List ℕ) → ((x : ℕ) → part x ≡ true → is_total (assigned x) ≡ true → size (assigned v) ≤ size (assigned x))
      → list_any part args ≡ true → are_total (values_at assigned args) ≡ true → size (assigned v) ≤ sizes (values_at assigned args)
  any_size part [] each any total = absurd (true≢false (sym any))
  any_size part (arg ∷ args) each any total =
      let parts = and_parts (is_total (assigned arg)) (are_total (values_at assigned args)) total in
      elim (either (part arg) (list_any part args) any) [
        | inl here ↦ let low = each arg here parts.0 in omega arith
        | inr rest ↦ let low = any_size part args each rest parts.1 in omega arith
      ]

  size_at : (part : ℕ → Bool) → ((x : ℕ) → part x ≡ true → is_total (assigned x) ≡ true → size (assigned v) ≤ size (assigned x)) → (x : ℕ)
      → is_total (assigned x) ≡ true → (k : Kind) (args : List ℕ) → head_at graph x ≡ node k args → occurs_at part v (head_of graph x) k args ≡ true
      → size (assigned v) ≤ size (assigned x)
  size_at part each x total kind.Free args head_is same =
      let here : v ≡ head_of graph x = eqb-true v (head_of graph x) same in
      let whole : assigned x ≡ assigned (head_of graph x) =
      total_above (assigned x) (assigned (head_of graph x)) (head_above program claims graph assigned loose (length graph) x) total in
      let sizes_are : size (assigned x) ≡ size (assigned v) = ap size (whole ∙ ap assigned (sym here)) in
      omega arith
  size_at part each x total (kind.Cons c) args head_is any =
      let us = values_at assigned args in
      let u = value.Constructed c us in
      let whole : assigned x ≡ u = total_above (assigned x) u (head_most program claims graph assigned x (kind.Cons c) args u loose head_is refl) total in
      let low : size (assigned v) ≤ sizes us = any_size part args each any (sym (ap is_total whole) ∙ total) in
      let size_is : size (assigned x) ≡ suc (sizes us) = ap size whole in
      omega arith
  size_at part each x total _ args head_is same = absurd (true≢false (sym same))

  occurs_size : (depth x : ℕ) → occurs_within depth graph v x ≡ true → is_total (assigned x) ≡ true → size (assigned v) ≤ size (assigned x)
  unfolding occurs_within
  occurs_size zero x occurs total = absurd (true≢false (sym occurs))
  occurs_size (suc depth) x occurs total =
      size_at (occurs_within depth graph v) (occurs_size depth) x total (head_at graph x).kind (head_at graph x).args refl occurs

  -- what has the constructor over them for its value isn't reached from its arguments
  occurs_never : (c : ConId) (args : List ℕ) → assigned v ≡ value.Constructed c (values_at assigned args) → is_total (assigned v) ≡ true → occurs_in graph v args ≡ true → ⊥
  occurs_never c args is total occurs =
      let low = any_size (occurs_within (length graph) graph v) args (occurs_size (length graph)) occurs (sym (ap is_total is) ∙ total) in
      let size_is : size (assigned v) ≡ suc (sizes (values_at assigned args)) = ap size is in
      omega arith

-- a variable beside a constructor has that constructor over what its arguments have
pub constructor_is : (program : Code) (claims : List Claim) (graph : Graph) (id : ℕ) (assigned : Assignment) → Loose program claims graph assigned
    → is_known (assigned id) ≡ true → (a b v other : ℕ) (c : ConId) (args : List ℕ) → node_at graph id ≡ node (kind.Prim prim.Unify) (a ∷ b ∷ [])
    → FreeBeside graph a b v other (kind.Cons c) args → (assigned v ≡ value.Constructed c (values_at assigned args)) × (is_total (assigned v) ≡ true)
constructor_is program claims graph id assigned loose known a b v other c args is sides = constructor_there sides
  where
    u : Value
    u = value.Constructed c (values_at assigned args)

    equal : (assigned a ≡ assigned b) × (is_total (assigned a) ≡ true)
    equal =
        let found = sides_equal program claims graph id assigned loose known a b is in
        (found.0, (and_parts (is_total (assigned a)) (is_data (assigned a)) found.1).0)

    whole : (x place : ℕ) → head_at graph x ≡ node (kind.Cons c) args → is_total (assigned x) ≡ true → assigned x ≡ u
    whole x place head_is total = total_above (assigned x) u (head_most program claims graph assigned x (kind.Cons c) args u loose head_is refl) total

    at_head : (x place : ℕ) → head_of graph x ≡ place → is_total (assigned x) ≡ true → assigned x ≡ assigned place
    at_head x place same total =
        total_above (assigned x) (assigned (head_of graph x)) (head_above program claims graph assigned loose (length graph) x) total ∙ ap assigned same

    constructor_there : FreeBeside graph a b v other (kind.Cons c) args → (assigned v ≡ u) × (is_total (assigned v) ≡ true)
    constructor_there (on_the_left us place_a head_a place_b head_b) =
        let first = at_head a v place_a equal.1 in
        let second : is_total (assigned b) ≡ true = sym (ap is_total equal.0) ∙ equal.1 in
        (sym first ∙ equal.0 ∙ whole b other head_b second, sym (ap is_total first) ∙ equal.1)
    constructor_there (on_the_right us place_b head_b place_a head_a) =
        let second : is_total (assigned b) ≡ true = sym (ap is_total equal.0) ∙ equal.1 in
        let first = at_head b v place_b second in
        (sym first ∙ sym equal.0 ∙ whole a other head_a equal.1, sym (ap is_total first) ∙ second)

pub never_occurs : (program : Code) (claims : List Claim) (graph : Graph) (id : ℕ) (assigned : Assignment) → Loose program claims graph assigned
    → is_known (assigned id) ≡ true → (a b v other : ℕ) (c : ConId) (args : List ℕ) → node_at graph id ≡ node (kind.Prim prim.Unify) (a ∷ b ∷ [])
    → FreeBeside graph a b v other (kind.Cons c) args → occurs_in graph v args ≡ true → ⊥
never_occurs program claims graph id assigned loose known a b v other c args is sides occurs =
    let found = constructor_is program claims graph id assigned loose known a b v other c args is sides in
    occurs_never program claims graph assigned loose v c args found.0 found.1 occurs
