-- An argument of the node that is rewritten, raised to the whole value of its head.
use Rattle.std.proofs.Common.{◌≡◌, ℕ, Bool, true, false, List, Some, refl, ap, sym, ◌∙◌, nat_eq, eq-eqb, eqb-true, true≢false}
use Rattle.cu_calculus.specs.Code.{Code}
use Rattle.cu_calculus.specs.Gives.{Claim}
use Rattle.cu_calculus.specs.Value.{Value, Values}
use Rattle.cu_machine.specs.declared.Kind.{Kind}
use Rattle.cu_machine.specs.declared.Kind.TheVariants as kind
use Rattle.cu_machine.specs.Graph.{Graph, Node, head_at, head_of, node_at}
use Rattle.cu_machine.specs.Steps.{node}
use Rattle.cu_machine.specs.Validity.{NodesFit}
use Rattle.cu_laws.specs.Good.{Assignment, RisesTo}
use Rattle.cu_laws.proofs.Changed.{apart_is_plain}
use Rattle.cu_laws.proofs.Heads.{made, raised_head, values_at}
use Rattle.cu_laws.proofs.Raising.{GoodApart, by_test, is_ind}

-- a higher assignment, in which one place has a value, and another one what it had
pub record Lifted (program : Code) (claims : List Claim) (graph : Graph) (id : ℕ) (assigned : Assignment) (place : ℕ) (most : Value) : Type 0 where
  pub higher : Assignment
  pub good : GoodApart (nat_eq id) program claims graph higher
  pub rises : RisesTo assigned higher
  pub there : higher place ≡ most
  pub kept : higher id ≡ assigned id

-- a node that is no head, and so no Ind that could lead to one
abbrev pub is_inner : Kind → Bool
is_inner kind.Ind = false
is_inner (kind.Cons c) = false
is_inner (kind.Lit l) = false
is_inner (kind.Part h) = false
is_inner kind.Free = false
is_inner _ = true

pub inner_no_ind : (k : Kind) → is_inner k ≡ true → is_ind k ≡ false
inner_no_ind kind.Ind inner = absurd (true≢false (sym inner))
inner_no_ind _ inner = refl

pub made_no_inner : (k : Kind) (us : Values) (most : Value) → made k us ≡ Some most → is_inner k ≡ false
made_no_inner (kind.Cons c) us most is = refl
made_no_inner (kind.Lit l) us most is = refl
made_no_inner (kind.Part h) us most is = refl
made_no_inner _ us most is = let no : ⊥ = cc in absurd no

-- places of which one passes a test and the other doesn't are two
pub two_places : (graph : Graph) (a b : ℕ) (test : Kind → Bool) → test (node_at graph a).kind ≡ true → test (node_at graph b).kind ≡ false → nat_eq a b ≡ false
two_places graph a b test one other =
    by_test (nat_eq a b) (λ x. nat_eq a b ≡ x → x ≡ false)
    (λ same e. absurd (true≢false (sym (ap (λ (y : ℕ). test (node_at graph y).kind) (sym (eqb-true a b same)) ∙ one) ∙ other))) (λ differ e. refl) refl

pub lifted : (program : Code) (claims : List Claim) (graph : Graph) (id : ℕ) (assigned : Assignment) (k : Kind) (args : List ℕ) → node_at graph id ≡ node k args
    → is_inner k ≡ true → NodesFit program graph → GoodApart (nat_eq id) program claims graph assigned → (place : ℕ) (h : Kind) (parts : List ℕ) (most : Value)
    → head_at graph place ≡ node h parts → made h (values_at assigned parts) ≡ Some most → Lifted program claims graph id assigned place most
lifted program claims graph id assigned k args is inner fit good place h parts most head_is made_is =
    let plain : is_ind k ≡ false = inner_no_ind k inner in
    let here : is_inner (node_at graph id).kind ≡ true = ap (λ (n : Node). is_inner n.kind) is ∙ inner in
    let there : is_inner (node_at graph (head_of graph place)).kind ≡ false =
    ap (λ (n : Node). is_inner n.kind) head_is ∙ made_no_inner h (values_at assigned parts) most made_is in
    let differ : nat_eq id (head_of graph place) ≡ false = two_places graph id (head_of graph place) is_inner here there in
    let raised = raised_head (nat_eq id) program claims graph assigned (apart_is_plain graph id k args is plain) fit good place h parts most head_is differ made_is in
    record {
      higher = raised.higher;
      good = raised.good;
      rises = raised.rises;
      there = raised.there;
      kept = raised.kept id (ap (λ (n : Node). is_ind n.kind) is ∙ plain) (λ same. true≢false (sym (eq-eqb id (head_of graph place) same) ∙ differ));
    }
