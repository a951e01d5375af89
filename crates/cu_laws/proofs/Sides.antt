-- Two sides of an equation, raised to the values of their heads.
use Rattle.std.proofs.Common.{◌≡◌, ℕ, ◌<◌, true, false, List, [], ◌∷◌, Some, refl, ap, sym, ◌∙◌, subst, length, nat_eq, eq-eqb, true≢false}
use Rattle.cu_calculus.specs.declared.builtin.Primitive.{Primitive}
use Rattle.cu_calculus.specs.Below as below
use Rattle.cu_calculus.specs.Below.{AllBelow, Below}
use Rattle.cu_calculus.specs.Builtin.{Answers}
use Rattle.cu_calculus.specs.Code.{Code}
use Rattle.cu_calculus.specs.FlatProgram.{program_of}
use Rattle.cu_calculus.specs.Gives.{Claim}
use Rattle.cu_calculus.specs.Value as value
use Rattle.cu_calculus.specs.Value.{Value}
use Rattle.cu_calculus.proofs.BelowLaws.{below_itself, below_trans}
use Rattle.cu_machine.specs.declared.Kind.{Kind}
use Rattle.cu_machine.specs.declared.Kind.TheVariants as kind
use Rattle.cu_machine.specs.Graph.{Graph, Node, head_at, head_of, node_at}
use Rattle.cu_machine.specs.Steps.{node}
use Rattle.cu_machine.specs.Validity.{NodesFit}
use Rattle.cu_laws.specs.Good.{Assignment, AtMost, RisesTo}
use Rattle.cu_laws.proofs.Changed.{Sound, apart_is_plain, sound_as}
use Rattle.cu_laws.proofs.Heads.{made, values_at}
use Rattle.cu_laws.proofs.Lifting.{Lifted, is_inner, lifted, two_places}
use Rattle.cu_laws.proofs.PairRows.{LiftedPair, made_rises, two}
use Rattle.cu_laws.proofs.Raising.{GoodApart, is_ind, raised_to, rises_trans, there_unless_stuck}
use Rattle.cu_laws.proofs.Rising.{answers_rise, at_most_rises, values_rise}

-- A place can be raised to at least a value, in whatever assignment is higher.
pub record CanRise (program : Code) (claims : List Claim) (graph : Graph) (id : ℕ) (assigned : Assignment) (place : ℕ) (v : Value) : Type 0 where
  pub to : (higher : Assignment) → GoodApart (nat_eq id) program claims graph higher → RisesTo assigned higher
      → (most : Value) × Lifted program claims graph id higher place most × Below v most

-- a place whose head is a value can be raised to it
pub made_can_rise : (program : Code) (claims : List Claim) (graph : Graph) (id : ℕ) (assigned : Assignment) (operation : Primitive) (all : List ℕ)
    → node_at graph id ≡ node (kind.Prim operation) all → NodesFit program graph → (place : ℕ) (k : Kind) (args : List ℕ) (v : Value) → head_at graph place ≡ node k args
    → made k (values_at assigned args) ≡ Some v → CanRise program claims graph id assigned place v
made_can_rise program claims graph id assigned operation all is fit place k args v head_is made_is = record {
  to = λ higher good up.
      let more = made_rises k (values_at assigned args) (values_at higher args) v (values_rise assigned higher args up) made_is in
      (more.0, lifted program claims graph id higher (kind.Prim operation) all is refl fit good place k args more.0 head_is more.1, more.2);
}

-- a place whose head is a free variable can be raised to what that has
pub free_can_rise : (program : Code) (claims : List Claim) (graph : Graph) (id : ℕ) (assigned : Assignment) (operation : Primitive) (all : List ℕ)
    → node_at graph id ≡ node (kind.Prim operation) all → (place : ℕ) (args : List ℕ) → head_at graph place ≡ node kind.Free args
    → CanRise program claims graph id assigned place (assigned (head_of graph place))
free_can_rise program claims graph id assigned operation all is place args head_is = record {
  to = λ higher good up.
      let target = head_of graph place in
      let here : target < length graph = there_unless_stuck graph target kind.Free args head_is refl in
      let inner : is_inner (node_at graph id).kind ≡ true = ap (λ (n : Node). is_inner n.kind) is in
      let outer : is_inner (node_at graph target).kind ≡ false = ap (λ (n : Node). is_inner n.kind) head_is in
      let differ : nat_eq id target ≡ false = two_places graph id target is_inner inner outer in
      let plain : is_ind (node_at graph id).kind ≡ false = ap (λ (n : Node). is_ind n.kind) is in
      let raised = raised_to (nat_eq id) program claims graph higher (apart_is_plain graph id (kind.Prim operation) all is refl) place (higher target) good
      (below_itself (higher target)) (good.of_program target) (λ among. good.each target here among) in (
        higher target,
        record {
          higher = raised.higher;
          good = raised.good;
          rises = raised.rises;
          there = raised.there;
          kept = raised.kept id plain (λ same. true≢false (sym (eq-eqb id target same) ∙ differ));
        },
        up target,
      );
}

pub pair_rises : (program : Code) (claims : List Claim) (graph : Graph) (id : ℕ) (assigned : Assignment) (a b : ℕ) (u v : Value)
    → GoodApart (nat_eq id) program claims graph assigned → CanRise program claims graph id assigned a u → CanRise program claims graph id assigned b v
    → LiftedPair program claims graph id assigned a b u v
pair_rises program claims graph id assigned a b u v good one other =
    let first = one.to assigned good (λ x. below_itself (assigned x)) in
    let second = other.to first.1.higher first.1.good first.1.rises in
    let higher = second.1.higher in
    record {
      higher = higher;
      good = second.1.good;
      rises = rises_trans assigned first.1.higher higher first.1.rises second.1.rises;
      one = below_trans u first.0 (higher a) first.2 (subst (λ (x : Value). Below x (higher a)) first.1.there (second.1.rises a));
      two = subst (λ (x : Value). Below v x) (sym second.1.there) second.2;
      kept = second.1.kept ∙ first.1.kept;
    }

-- an operation on two sides, of which it answers at least what its place has
pub sides_sound : (program : Code) (claims : List Claim) (graph : Graph) (id : ℕ) (operation : Primitive) (a b : ℕ) (u v : Value) (later assigned : Assignment)
    → node_at graph id ≡ node (kind.Prim operation) (a ∷ b ∷ []) → GoodApart (nat_eq id) program claims graph assigned → RisesTo later assigned
    → CanRise program claims graph id assigned a u → CanRise program claims graph id assigned b v → AtMost (Answers (program_of program) operation (two u v)) (assigned id)
    → Sound program claims graph later
sides_sound program claims graph id operation a b u v later assigned is good up one other most =
    let P = program_of program in
    let lift = pair_rises program claims graph id assigned a b u v good one other in
    let above : AllBelow (two u v) (two (lift.higher a) (lift.higher b)) =
    below.more u (lift.higher a) (value.MoreValues v value.NoValue) (value.MoreValues (lift.higher b) value.NoValue) lift.one
    (below.more v (lift.higher b) value.NoValue value.NoValue lift.two below.none) in
    let worth : AtMost (Answers P operation (two (lift.higher a) (lift.higher b))) (assigned id) =
    at_most_rises (Answers P operation (two u v)) (Answers P operation (two (lift.higher a) (lift.higher b))) (assigned id) most
    (λ w given. (w, answers_rise P operation (two u v) (two (lift.higher a) (lift.higher b)) w given above, below_itself w)) in
    sound_as program claims graph id (kind.Prim operation) (a ∷ b ∷ []) later lift.higher is lift.good (rises_trans later assigned lift.higher up lift.rises)
    (subst (λ (x : Value). AtMost (Answers P operation (two (lift.higher a) (lift.higher b))) x) (sym lift.kept) worth)
