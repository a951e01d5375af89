-- Nodes in a loose assignment, and their heads.
use Rattle.std.proofs.Common.{◌≡◌, ℕ, zero, suc, ◌<◌, false, List, ◌∷◌, Some, refl, sym, subst, length, true≢false}
use Rattle.cu_calculus.specs.Below.{Below}
use Rattle.cu_calculus.specs.Code.{Code}
use Rattle.cu_calculus.specs.Gives.{Claim}
use Rattle.cu_calculus.specs.Value.{Value}
use Rattle.cu_calculus.proofs.BelowLaws.{below_itself, below_trans}
use Rattle.cu_machine.specs.declared.Kind.{Kind}
use Rattle.cu_machine.specs.declared.Kind.TheVariants as kind
use Rattle.cu_machine.specs.Graph.{Graph, Node, head_at, head_of, head_within, node_at}
use Rattle.cu_machine.specs.Steps.{node}
use Rattle.cu_laws.specs.Good.{Assignment, Loose, MayHave, NoValue}
pub use Rattle.cu_laws.specs.Good.{AnyValue}
use Rattle.cu_laws.proofs.Heads.{made, made_is_most, made_not_stuck, values_at}
use Rattle.cu_laws.proofs.Raising.{follow, is_itself, is_stuck, leads_on, there_unless_stuck}

-- ---- stuck nodes

pub loosened : (program : Code) (claims : List Claim) (assigned : Assignment) (k : Kind) (args : List ℕ) (v : Value) → MayHave NoValue program claims assigned k args v
    → MayHave AnyValue program claims assigned k args v
loosened program claims assigned kind.Stuck args v may = tt
loosened program claims assigned kind.Ind (target ∷ args) v may = may
loosened program claims assigned _ args v may = may

pub tightened : (program : Code) (claims : List Claim) (assigned : Assignment) (k : Kind) (args : List ℕ) (v : Value) → is_stuck k ≡ false
    → MayHave AnyValue program claims assigned k args v → MayHave NoValue program claims assigned k args v
tightened program claims assigned kind.Stuck args v other may = absurd (true≢false other)
tightened program claims assigned kind.Ind (target ∷ args) v other may = may
tightened program claims assigned _ args v other may = may

-- what a node that isn't stuck may have
pub loose_at : (program : Code) (claims : List Claim) (graph : Graph) (assigned : Assignment) (x : ℕ) (k : Kind) (args : List ℕ) → Loose program claims graph assigned
    → node_at graph x ≡ node k args → is_stuck k ≡ false → MayHave NoValue program claims assigned k args (assigned x)
loose_at program claims graph assigned x k args loose is other =
    tightened program claims assigned k args (assigned x) other
    (subst (λ (n : Node). MayHave AnyValue program claims assigned n.kind n.args (assigned x)) is (loose.each x (there_unless_stuck graph x k args is other)))

-- ---- heads

-- a node that isn't its head has at most its head's value
pub head_above : (program : Code) (claims : List Claim) (graph : Graph) (assigned : Assignment) → Loose program claims graph assigned → (visits x : ℕ)
    → Below (assigned x) (assigned (head_within visits graph x))
unfolding head_within
head_above program claims graph assigned loose zero x = below_itself (assigned x)
head_above program claims graph assigned loose (suc visits) x = elim (follow visits graph x) [
  | is_itself same ↦ subst (λ (y : ℕ). Below (assigned x) (assigned y)) (sym same) (below_itself (assigned x))
  | leads_on target args is steps ↦
      let here : x < length graph = there_unless_stuck graph x kind.Ind (target ∷ args) is refl in
      let low : Below (assigned x) (assigned target) =
      subst (λ (n : Node). MayHave AnyValue program claims assigned n.kind n.args (assigned x)) is (loose.each x here) in
      let place = head_within visits graph target in
      subst (λ (y : ℕ). Below (assigned x) (assigned y)) (sym steps)
      (below_trans (assigned x) (assigned target) (assigned place) low (head_above program claims graph assigned loose visits target))
]

-- a node has at most the whole value of its head
pub head_most : (program : Code) (claims : List Claim) (graph : Graph) (assigned : Assignment) (x : ℕ) (k : Kind) (args : List ℕ) (most : Value)
    → Loose program claims graph assigned → head_at graph x ≡ node k args → made k (values_at assigned args) ≡ Some most → Below (assigned x) most
head_most program claims graph assigned x k args most loose is made_is =
    let place = head_of graph x in
    below_trans (assigned x) (assigned place) most (head_above program claims graph assigned loose (length graph) x)
    (made_is_most program claims assigned k args (assigned place) most
    (loose_at program claims graph assigned place k args loose is (made_not_stuck k (values_at assigned args) most made_is)) made_is)
