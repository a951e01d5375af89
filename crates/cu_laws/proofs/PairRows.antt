-- Comparisons and conjunctions are worth what they answer on the values of their two sides.
use Rattle.std.proofs.Common.{◌≡◌, ℕ, ◌⊎◌, inl, inr, Bool, true, false, ◌&&◌, List, [], ◌∷◌, Option, None, Some, refl, ap, sym, ◌∙◌, subst, length, zip, nat_eq, eqb-true, option_map, true≢false}
use Rattle.std.proofs.lemmas.Bool.{and_parts}
use Rattle.cu_calculus.specs.declared.ConId.{ConId}
use Rattle.cu_calculus.specs.declared.Head.TheVariants as head
use Rattle.cu_calculus.specs.declared.Lit.{Lit}
use Rattle.cu_calculus.specs.declared.builtin.Primitive.{Primitive}
use Rattle.cu_calculus.specs.declared.builtin.Primitive.TheVariants as prim
use Rattle.cu_calculus.specs.Below as below
use Rattle.cu_calculus.specs.Below.{AllBelow, Below}
use Rattle.cu_calculus.specs.Builtin as builtin
use Rattle.cu_calculus.specs.Builtin.{AllCompare, Answers, Compares, truth_of}
use Rattle.cu_calculus.specs.Code.{Code, arity_of}
use Rattle.cu_calculus.specs.Compared.{compared}
use Rattle.cu_calculus.specs.FlatProgram.{program_of}
use Rattle.cu_calculus.specs.Gives.{Claim}
use Rattle.cu_calculus.specs.Literal.{same_literal}
use Rattle.cu_calculus.specs.Match.{same_constructor}
use Rattle.cu_calculus.specs.Program.{Program}
use Rattle.cu_calculus.specs.Shape.{takes}
use Rattle.cu_calculus.specs.Valid.{HasSpecial}
use Rattle.cu_calculus.specs.Value as value
use Rattle.cu_calculus.specs.Value.{Value, Values}
use Rattle.cu_calculus.specs.WellFormed.{is_well_formed}
use Rattle.cu_calculus.proofs.Answering.{answers_answered}
use Rattle.cu_calculus.proofs.BelowLaws.{below_itself, below_trans}
use Rattle.cu_calculus.proofs.Comparing.{compared_compares, same_is}
use Rattle.cu_machine.specs.declared.Kind.{Kind}
use Rattle.cu_machine.specs.declared.Kind.TheVariants as kind
use Rattle.cu_machine.specs.Graph.{Graph, Node, head_at, head_of, node_at, put}
use Rattle.cu_machine.specs.Rewrite.{alone_follows, is_true, pairwise_comparison_step}
use Rattle.cu_machine.specs.Steps.{are_mixed, node, telling}
use Rattle.cu_machine.specs.Validity.{NodesFit, has_arguments}
use Rattle.cu_laws.specs.Good.{Assignment, AtMost, Good, RisesTo}
use Rattle.cu_laws.proofs.Changed.{Changed, Sound, apart_before, changed_by_put, sound_as}
use Rattle.cu_laws.proofs.Heads.{made, values_at}
use Rattle.cu_laws.proofs.Inversion.{ConjunctionGives, conjunction_gives}
use Rattle.cu_laws.proofs.Lifting.{lifted}
use Rattle.cu_laws.proofs.LiteralRows.{node_by_kind, truth_is_node, truth_kind}
use Rattle.cu_laws.proofs.Pairs.{Says, pairs_after}
use Rattle.cu_laws.proofs.Raising.{GoodApart, rises_trans, there_unless_stuck}
use Rattle.cu_laws.proofs.Rising.{answers_rise, at_most_rises, values_rise}
use Rattle.cu_laws.proofs.Truth.{no_truth, special_of, telling_low, true_head, truth_below, under_bottom}

-- ---- two sides

pub record LiftedPair (program : Code) (claims : List Claim) (graph : Graph) (id : ℕ) (assigned : Assignment) (a b : ℕ) (u v : Value) : Type 0 where
  pub higher : Assignment
  pub good : GoodApart (nat_eq id) program claims graph higher
  pub rises : RisesTo assigned higher
  pub one : Below u (higher a)
  pub two : Below v (higher b)
  pub kept : higher id ≡ assigned id

-- what a head is rises with its arguments
pub made_rises : (k : Kind) (us vs : Values) (u : Value) → AllBelow us vs → made k us ≡ Some u → (v : Value) × (made k vs ≡ Some v) × Below u v
made_rises (kind.Cons c) us vs u up is =
    let same : value.Constructed c us ≡ u = cc in
    (value.Constructed c vs, refl, subst (λ (x : Value). Below x (value.Constructed c vs)) same (below.constructed c us vs up))
made_rises (kind.Lit l) us vs u up is = let same : value.Literal l ≡ u = cc in (u, is, below_itself u)
made_rises (kind.Part h) us vs u up is =
    let same : value.Partial h us ≡ u = cc in
    (value.Partial h vs, refl, subst (λ (x : Value). Below x (value.Partial h vs)) same (below.partial h us vs up))
made_rises _ us vs u up is = let no : ⊥ = cc in absurd no

pub lifted_pair : (program : Code) (claims : List Claim) (graph : Graph) (id : ℕ) (assigned : Assignment) (operation : Primitive) (all : List ℕ)
    → node_at graph id ≡ node (kind.Prim operation) all → NodesFit program graph → GoodApart (nat_eq id) program claims graph assigned
    → (a b : ℕ) (k l : Kind) (us vs : List ℕ) (u v : Value) → head_at graph a ≡ node k us → head_at graph b ≡ node l vs
    → made k (values_at assigned us) ≡ Some u → made l (values_at assigned vs) ≡ Some v → LiftedPair program claims graph id assigned a b u v
lifted_pair program claims graph id assigned operation all is fit apart a b k l us vs u v head_a head_b made_a made_b =
    let first = lifted program claims graph id assigned (kind.Prim operation) all is refl fit apart a k us u head_a made_a in
    let more = made_rises l (values_at assigned vs) (values_at first.higher vs) v (values_rise assigned first.higher vs first.rises) made_b in
    let second = lifted program claims graph id first.higher (kind.Prim operation) all is refl fit first.good b l vs more.0 head_b more.1 in
    record {
      higher = second.higher;
      good = second.good;
      rises = rises_trans assigned first.higher second.higher first.rises second.rises;
      one = subst (λ (x : Value). Below x (second.higher a)) first.there (second.rises a);
      two = subst (λ (x : Value). Below v x) (sym second.there) more.2;
      kept = second.kept ∙ first.kept;
    }

abbrev pub two : Value → Value → Values
two u v = value.MoreValues u (value.MoreValues v value.NoValue)

-- an operation on two heads, whose place is worth at most what it answers on them
pub pair_sound : (program : Code) (claims : List Claim) (graph after : Graph) (new : Node) (id : ℕ) (operation : Primitive) (a b : ℕ) (k l : Kind) (us vs : List ℕ) (u v : Value)
    (later : Assignment) → NodesFit program graph → node_at graph id ≡ node (kind.Prim operation) (a ∷ b ∷ []) → head_at graph a ≡ node k us → head_at graph b ≡ node l vs
    → made k (values_at later us) ≡ Some u → made l (values_at later vs) ≡ Some v → Changed graph id after new → Good program claims after later
    → AtMost (Answers (program_of program) operation (two u v)) (later id) → Sound program claims graph later
pair_sound program claims graph after new id operation a b k l us vs u v later fit is head_a head_b made_a made_b changed good most =
    let P = program_of program in
    let apart = apart_before program claims graph id after new later changed good in
    let lift = lifted_pair program claims graph id later operation (a ∷ b ∷ []) is fit apart a b k l us vs u v head_a head_b made_a made_b in
    let up : AllBelow (two u v) (two (lift.higher a) (lift.higher b)) =
    below.more u (lift.higher a) (value.MoreValues v value.NoValue) (value.MoreValues (lift.higher b) value.NoValue) lift.one
    (below.more v (lift.higher b) value.NoValue value.NoValue lift.two below.none) in
    let worth : AtMost (Answers P operation (two (lift.higher a) (lift.higher b))) (later id) =
    at_most_rises (Answers P operation (two u v)) (Answers P operation (two (lift.higher a) (lift.higher b))) (later id) most
    (λ w given. (w, answers_rise P operation (two u v) (two (lift.higher a) (lift.higher b)) w given up, below_itself w)) in
    sound_as program claims graph id (kind.Prim operation) (a ∷ b ∷ []) later lift.higher is lift.good lift.rises
    (subst (λ (x : Value). AtMost (Answers P operation (two (lift.higher a) (lift.higher b))) x) (sym lift.kept) worth)

-- an operation that becomes its answer is sound
pub pair_told : (program : Code) (claims : List Claim) (graph after : Graph) (id : ℕ) (operation : Primitive) (a b : ℕ) (k l : Kind) (us vs : List ℕ) (u v : Value) (answer : Bool)
    (later : Assignment) → NodesFit program graph → node_at graph id ≡ node (kind.Prim operation) (a ∷ b ∷ []) → head_at graph a ≡ node k us → head_at graph b ≡ node l vs
    → made k (values_at later us) ≡ Some u → made l (values_at later vs) ≡ Some v → after ≡ telling program graph id answer → Good program claims after later
    → Answers (program_of program) operation (two u v) (truth_of (program_of program) answer) → Sound program claims graph later
pair_told program claims graph after id operation a b k l us vs u v answer later fit is head_a head_b made_a made_b after_is good answers =
    let here = there_unless_stuck graph id (kind.Prim operation) (a ∷ b ∷ []) is refl in
    pair_sound program claims graph after (truth_node_of program answer) id operation a b k l us vs u v later fit is head_a head_b made_a made_b
    (changed_by_put graph id after (truth_node_of program answer) here (after_is ∙ ap (put graph id) (truth_is_node program answer))) good
    (inr (truth_of (program_of program) answer, answers, telling_low program claims graph after id answer later here after_is good))
  where
    truth_node_of : Code → Bool → Node
    truth_node_of p b = node (truth_kind p b) []

-- ---- comparisons

pub compared_literals_sound : (program : Code) (claims : List Claim) (graph after : Graph) (id a b : ℕ) (l m : Lit) (us vs : List ℕ) (later : Assignment)
    → NodesFit program graph → node_at graph id ≡ node (kind.Prim prim.Equal) (a ∷ b ∷ []) → head_at graph a ≡ node (kind.Lit l) us → head_at graph b ≡ node (kind.Lit m) vs
    → after ≡ telling program graph id (same_literal l m) → Good program claims after later → Sound program claims graph later
compared_literals_sound program claims graph after id a b l m us vs later fit is head_a head_b after_is good =
    let answer = same_literal l m in
    pair_told program claims graph after id prim.Equal a b (kind.Lit l) (kind.Lit m) us vs (value.Literal l) (value.Literal m) answer later fit is head_a head_b refl refl
    after_is good (builtin.equal (value.Literal l) (value.Literal m) (truth_of (program_of program) answer) answer (builtin.two_literals l m answer refl) refl)

pub compared_mixed_sound : (program : Code) (claims : List Claim) (graph after : Graph) (id a b : ℕ) (later : Assignment) → NodesFit program graph
    → node_at graph id ≡ node (kind.Prim prim.Equal) (a ∷ b ∷ []) → (k l : Kind) → (head_at graph a).kind ≡ k → (head_at graph b).kind ≡ l → are_mixed k l ≡ true
    → after ≡ telling program graph id false → Good program claims after later → Sound program claims graph later
compared_mixed_sound program claims graph after id a b later fit is (kind.Lit l) (kind.Cons c) kind_a kind_b mixed after_is good =
    let us = (head_at graph a).args in
    let vs = (head_at graph b).args in
    let v = value.Constructed c (values_at later vs) in
    pair_told program claims graph after id prim.Equal a b (kind.Lit l) (kind.Cons c) us vs (value.Literal l) v false later fit is
    (node_by_kind (head_at graph a) (kind.Lit l) kind_a) (node_by_kind (head_at graph b) (kind.Cons c) kind_b) refl refl after_is good
    (builtin.equal (value.Literal l) v (truth_of (program_of program) false) false (builtin.literal_first l c (values_at later vs)) refl)
compared_mixed_sound program claims graph after id a b later fit is (kind.Cons c) (kind.Lit l) kind_a kind_b mixed after_is good =
    let us = (head_at graph a).args in
    let vs = (head_at graph b).args in
    let u = value.Constructed c (values_at later us) in
    pair_told program claims graph after id prim.Equal a b (kind.Cons c) (kind.Lit l) us vs u (value.Literal l) false later fit is
    (node_by_kind (head_at graph a) (kind.Cons c) kind_a) (node_by_kind (head_at graph b) (kind.Lit l) kind_b) refl refl after_is good
    (builtin.equal u (value.Literal l) (truth_of (program_of program) false) false (builtin.literal_second c (values_at later us) l) refl)
compared_mixed_sound program claims graph after id a b later fit is _ _ kind_a kind_b mixed after_is good = absurd (true≢false (sym mixed))

pub compared_unlike_sound : (program : Code) (claims : List Claim) (graph after : Graph) (id a b : ℕ) (c d : ConId) (us vs : List ℕ) (later : Assignment)
    → NodesFit program graph → node_at graph id ≡ node (kind.Prim prim.Equal) (a ∷ b ∷ []) → head_at graph a ≡ node (kind.Cons c) us → head_at graph b ≡ node (kind.Cons d) vs
    → same_constructor c d ≡ false → after ≡ telling program graph id false → Good program claims after later → Sound program claims graph later
compared_unlike_sound program claims graph after id a b c d us vs later fit is head_a head_b differ after_is good =
    let u = value.Constructed c (values_at later us) in
    let v = value.Constructed d (values_at later vs) in
    pair_told program claims graph after id prim.Equal a b (kind.Cons c) (kind.Cons d) us vs u v false later fit is head_a head_b refl refl after_is good
    (builtin.equal u v (truth_of (program_of program) false) false (builtin.different c d (values_at later us) (values_at later vs) differ) refl)

-- ---- comparisons in pairs

abbrev pub OneCompares : Program → Value → Value → Value → Type 0
OneCompares program a b v = (v ≡ value.Bottom) ⊎ ((answer : Bool) × Compares a b answer × Below v (truth_of program answer))

abbrev pub AllCompareTo : Program → Values → Values → Value → Type 0
AllCompareTo program us vs v = (v ≡ value.Bottom) ⊎ ((answer : Bool) × AllCompare us vs answer × Below v (truth_of program answer))

equal_answers : (program : Program) (a b w : Value) → Answers program prim.Equal (two a b) w → (answer : Bool) × Compares a b answer × (w ≡ truth_of program answer)
equal_answers program a b w answers = go (compared a b) (compared_compares a b) (answers_answered program prim.Equal (two a b) w answers)
  where
    go : (found : Option Bool) → ((answer : Bool) → found ≡ Some answer → Compares a b answer) → option_map (truth_of program) found ≡ Some w
        → (answer : Bool) × Compares a b answer × (w ≡ truth_of program answer)
    go None each e = let no : ⊥ = cc in absurd no
    go (Some answer) each e = let same : truth_of program answer ≡ w = cc in (answer, each answer refl, sym same)

one_compares : (program : Program) (a b v : Value) → AtMost (Answers program prim.Equal (two a b)) v → OneCompares program a b v
one_compares program a b v (inl none) = inl none
one_compares program a b v (inr found) =
    let told = equal_answers program a b found.0 found.1 in inr (told.0, told.1, subst (λ (x : Value). Below v x) told.2 found.2)

last_compares : (program : Program) (a b v w : Value) → OneCompares program a b v → Below w v
    → AllCompareTo program (value.MoreValues a value.NoValue) (value.MoreValues b value.NoValue) w
last_compares program a b v w (inl none) low = inl (under_bottom w (subst (λ (x : Value). Below w x) none low))
last_compares program a b v w (inr (true, compares, most)) low =
    inr (true, builtin.first_alike a b value.NoValue value.NoValue true compares builtin.none, below_trans w v (truth_of program true) low most)
last_compares program a b v w (inr (false, compares, most)) low =
    inr (false, builtin.first_differs a b value.NoValue value.NoValue compares, below_trans w v (truth_of program false) low most)

joint_compares : (program : Program) (special : HasSpecial program) (a b : Value) (us vs : Values) (x y v w : Value) → OneCompares program a b x → AllCompareTo program us vs y
    → ConjunctionGives program x y w → Below v w → AllCompareTo program (value.MoreValues a us) (value.MoreValues b vs) v
joint_compares program special a b us vs x y v w one all (inl none) low = inl (under_bottom v (subst (λ (z : Value). Below v z) none low))
joint_compares program special a b us vs x y v w (inl none) all (inr (inl given)) low = absurd (no_truth program false (sym none ∙ given.0))
joint_compares program special a b us vs x y v w (inr (answer, compares, most)) all (inr (inl given)) low =
    let is : false ≡ answer = truth_below program special false answer x given.0 most in
    let differ : Compares a b false = subst (λ (t : Bool). Compares a b t) (sym is) compares in
    inr (false, builtin.first_differs a b us vs differ, below_trans v w (truth_of program false) low given.1)
joint_compares program special a b us vs x y v w (inl none) all (inr (inr given)) low = absurd (no_truth program true (sym none ∙ given.0))
joint_compares program special a b us vs x y v w (inr one) (inl none) (inr (inr given)) low =
    inl (under_bottom v (subst (λ (z : Value). Below v z) none (below_trans v w y low given.1)))
joint_compares program special a b us vs x y v w (inr (answer, compares, most)) (inr (others, all_compare, all_most)) (inr (inr given)) low =
    let is : true ≡ answer = truth_below program special true answer x given.0 most in
    let alike : Compares a b true = subst (λ (t : Bool). Compares a b t) (sym is) compares in
    inr (
      others,
      builtin.first_alike a b us vs others alike all_compare,
      below_trans v w (truth_of program others) low (below_trans w y (truth_of program others) given.1 all_most),
    )

pub comparisons_say : (program : Code) (claims : List Claim) (assigned : Assignment) → is_well_formed program ≡ true
    → Says program claims assigned (kind.Prim prim.Equal) (kind.Call program.special.both) (OneCompares (program_of program)) (AllCompareTo (program_of program))
comparisons_say program claims assigned well =
    let P = program_of program in
    let special = special_of program well in
    record {
      one = λ a b v may. one_compares P (assigned a) (assigned b) v may;
      last = last_compares P;
      step = λ a b us vs i j v one all may. elim may [
        | inl none ↦ inl none
        | inr found ↦ joint_compares P special a b us vs (assigned i) (assigned j) v found.0 one all (conjunction_gives P claims (assigned i) (assigned j) found.0 special found.1) found.2
      ];
      nothing = λ v low. inr (true, builtin.none, low);
    }

takes_alike : (o : Option ℕ) (m n : ℕ) → takes o m ≡ true → takes o n ≡ true → m ≡ n
takes_alike None m n one other = absurd (true≢false (sym one))
takes_alike (Some arity) m n one other = sym (eqb-true arity m one) ∙ eqb-true arity n other

-- two constructors that are the same have as many arguments
pub as_many_arguments : (program : Code) (graph : Graph) (a b : ℕ) (c d : ConId) (us vs : List ℕ) → NodesFit program graph → head_at graph a ≡ node (kind.Cons c) us
    → head_at graph b ≡ node (kind.Cons d) vs → c ≡ d → length us ≡ length vs
as_many_arguments program graph a b c d us vs fit head_a head_b same =
    let there_a = there_unless_stuck graph (head_of graph a) (kind.Cons c) us head_a refl in
    let there_b = there_unless_stuck graph (head_of graph b) (kind.Cons d) vs head_b refl in
    let whole_a : takes (arity_of program (head.Con c)) (length us) ≡ true =
    subst (λ (n : Node). has_arguments program n.kind (length n.args) ≡ true) head_a (fit (head_of graph a) there_a) in
    let whole_b : takes (arity_of program (head.Con d)) (length vs) ≡ true =
    subst (λ (n : Node). has_arguments program n.kind (length n.args) ≡ true) head_b (fit (head_of graph b) there_b) in
    takes_alike (arity_of program (head.Con c)) (length us) (length vs) whole_a
    (subst (λ (e : ConId). takes (arity_of program (head.Con e)) (length vs) ≡ true) (sym same) whole_b)

pub compared_alike_sound : (program : Code) (claims : List Claim) (graph after : Graph) (id a b : ℕ) (c d : ConId) (us vs : List ℕ) (later : Assignment)
    → is_well_formed program ≡ true → NodesFit program graph → node_at graph id ≡ node (kind.Prim prim.Equal) (a ∷ b ∷ []) → head_at graph a ≡ node (kind.Cons c) us
    → head_at graph b ≡ node (kind.Cons d) vs → same_constructor c d ≡ true → pairwise_comparison_step program.special graph id (zip us vs) ≡ alone_follows after
    → Good program claims after later → Sound program claims graph later
compared_alike_sound program claims graph after id a b c d us vs later well fit is head_a head_b alike after_is good =
    let P = program_of program in
    let same : c ≡ d = same_is c d alike in
    let here = there_unless_stuck graph id (kind.Prim prim.Equal) (a ∷ b ∷ []) is refl in
    let u = value.Constructed c (values_at later us) in
    let v = value.Constructed d (values_at later vs) in
    let found = pairs_after program claims graph after id (kind.Prim prim.Equal) (kind.Call program.special.both) (OneCompares P) (AllCompareTo P) us vs later here
    (comparisons_say program claims later well) (as_many_arguments program graph a b c d us vs fit head_a head_b same) after_is good in
    pair_sound program claims graph after found.new id prim.Equal a b (kind.Cons c) (kind.Cons d) us vs u v later fit is head_a head_b refl refl found.changed good
    (elim found.say [
      | inl none ↦ inl none
      | inr told ↦ inr (
        truth_of P told.0,
        builtin.equal u v (truth_of P told.0) told.0
            (subst (λ (e : ConId). Compares u (value.Constructed e (values_at later vs)) told.0) same
            (builtin.alike c (values_at later us) (values_at later vs) told.0 told.1)) refl,
        told.2,
      )
    ])

-- ---- the conjunction `&`

pub both_true_sound : (program : Code) (claims : List Claim) (graph after : Graph) (id a b : ℕ) (later : Assignment) → is_well_formed program ≡ true → NodesFit program graph
    → node_at graph id ≡ node (kind.Prim prim.And) (a ∷ b ∷ [])
    → (is_true program.special (head_at graph a).kind && is_true program.special (head_at graph b).kind) ≡ true → after ≡ telling program graph id true
    → Good program claims after later → Sound program claims graph later
both_true_sound program claims graph after id a b later well fit is both after_is good =
    let P = program_of program in
    let truth = truth_of P true in
    let parts = and_parts (is_true program.special (head_at graph a).kind) (is_true program.special (head_at graph b).kind) both in
    pair_told program claims graph after id prim.And a b (kind.Cons program.special.truth) (kind.Cons program.special.truth) [] [] truth truth true later fit is
    (true_head program graph a well fit parts.0) (true_head program graph b well fit parts.1) refl refl after_is good (builtin.conjoined truth truth truth refl refl refl)
