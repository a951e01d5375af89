-- Assignments that are good apart from some nodes, and how the value of a node is raised in them.
use Rattle.std.proofs.Common.{◌≡◌, ◌≢◌, ℕ, zero, suc, ◌<◌, inl, inr, Bool, true, false, if◌then◌else◌, List, ◌∷◌, IsTrue, refl, ap, sym, ◌∙◌, subst, length, nat_eq, eq-eqb, eqb-true, true≢false}
use Rattle.std.proofs.lemmas.Bool.{cases_lt}
use Rattle.std.proofs.lemmas.List.{get_or_past}
use Rattle.cu_calculus.specs.Below.{Below}
use Rattle.cu_calculus.specs.Code.{Code}
use Rattle.cu_calculus.specs.FlatProgram.{program_of}
use Rattle.cu_calculus.specs.Gives.{Claim}
use Rattle.cu_calculus.specs.Program.{Program}
use Rattle.cu_calculus.specs.Shape.{is_of}
use Rattle.cu_calculus.specs.Value.{Value}
use Rattle.cu_calculus.proofs.BelowLaws.{below_itself, below_trans}
use Rattle.cu_machine.specs.declared.Kind.{Kind}
use Rattle.cu_machine.specs.declared.Kind.TheVariants as kind
use Rattle.cu_machine.specs.Graph.{Graph, Node, followed, head_at, head_of, head_within, node_at, stuck}
use Rattle.cu_machine.specs.Steps.{node}
use Rattle.cu_laws.specs.Good.{Assignment, MayHave, NoValue, RisesTo}
use Rattle.cu_laws.proofs.Rising.{may_rise}

-- ---- assignments that are good apart from some places

pub record GoodApart (apart : ℕ → Bool) (program : Code) (claims : List Claim) (graph : Graph) (assigned : Assignment) : Type 0 where
  pub of_program : (id : ℕ) → IsTrue (is_of (program_of program) (assigned id))
  pub each : (id : ℕ) → id < length graph → apart id ≡ false
      → MayHave NoValue program claims assigned (node_at graph id).kind (node_at graph id).args (assigned id)

pub rises_itself : (assigned : Assignment) → RisesTo assigned assigned
rises_itself assigned id = below_itself (assigned id)

pub rises_trans : (a b c : Assignment) → RisesTo a b → RisesTo b c → RisesTo a c
rises_trans a b c p q id = below_trans (a id) (b id) (c id) (p id) (q id)

-- ---- nodes that are there

abbrev pub is_stuck : Kind → Bool
is_stuck kind.Stuck = true
is_stuck _ = false

abbrev pub is_ind : Kind → Bool
is_ind kind.Ind = true
is_ind _ = false

-- a node that isn't stuck is there
pub there_unless_stuck : (graph : Graph) (id : ℕ) (k : Kind) (args : List ℕ) → node_at graph id ≡ node k args → is_stuck k ≡ false → id < length graph
there_unless_stuck graph id k args is other = elim (cases_lt id (length graph)) [
  | inl below ↦ below
  | inr past ↦
      let same : stuck ≡ node k args = sym (get_or_past graph id stuck past) ∙ is in
      let no : true ≡ false = ap (λ (n : Node). is_stuck n.kind) same ∙ other in
      absurd (true≢false no)
]

-- ---- raising one value

abbrev pub raise : Assignment → ℕ → Value → Assignment
raise assigned id v x = if nat_eq id x then v else assigned x

pub by_test : (b : Bool) (P : Bool → Type 0) → (b ≡ true → P true) → (b ≡ false → P false) → P b
by_test true P yes_case no_case = yes_case refl
by_test false P yes_case no_case = no_case refl

pub raise_rises : (assigned : Assignment) (id : ℕ) (v : Value) → Below (assigned id) v → RisesTo assigned (raise assigned id v)
raise_rises assigned id v up x =
    by_test (nat_eq id x) (λ b. Below (assigned x) (if b then v else assigned x))
    (λ same. subst (λ (y : ℕ). Below (assigned y) v) (eqb-true id x same) up) (λ other. below_itself (assigned x))

pub raise_of : (program : Program) (assigned : Assignment) (id : ℕ) (v : Value) → IsTrue (is_of program v) → ((x : ℕ) → IsTrue (is_of program (assigned x)))
    → (x : ℕ) → IsTrue (is_of program (raise assigned id v x))
raise_of program assigned id v fit all x = by_test (nat_eq id x) (λ b. IsTrue (is_of program (if b then v else assigned x))) (λ same. fit) (λ other. all x)

pub raise_good : (apart : ℕ → Bool) (program : Code) (claims : List Claim) (graph : Graph) (assigned : Assignment) (id : ℕ) (v : Value)
    → GoodApart apart program claims graph assigned → Below (assigned id) v → IsTrue (is_of (program_of program) v)
    → (apart id ≡ false → MayHave NoValue program claims assigned (node_at graph id).kind (node_at graph id).args v)
    → GoodApart apart program claims graph (raise assigned id v)
raise_good apart program claims graph assigned id v good up fit may =
    let high = raise assigned id v in
    let all : RisesTo assigned high = raise_rises assigned id v up in
    record {
      of_program = raise_of (program_of program) assigned id v fit good.of_program;
      each = λ x below here.
          by_test (nat_eq id x) (λ b. MayHave NoValue program claims high (node_at graph x).kind (node_at graph x).args (if b then v else assigned x))
          (λ same.
          let is : id ≡ x = eqb-true id x same in
          may_rise NoValue program claims assigned high (node_at graph x).kind (node_at graph x).args v all
          (subst (λ (y : ℕ). MayHave NoValue program claims assigned (node_at graph y).kind (node_at graph y).args v) is (may (ap apart is ∙ here))))
          (λ other. may_rise NoValue program claims assigned high (node_at graph x).kind (node_at graph x).args (assigned x) all (good.each x below here));
    }

-- ---- raising a node along the Inds that lead to its head

-- an assignment that is higher, in which a node has a value, and in which only Inds and one place
-- have other values
pub record Raised (apart : ℕ → Bool) (program : Code) (claims : List Claim) (graph : Graph) (assigned : Assignment) (id place : ℕ) (v : Value) : Type 0 where
  pub higher : Assignment
  pub good : GoodApart apart program claims graph higher
  pub rises : RisesTo assigned higher
  pub there : higher id ≡ v
  pub kept : (x : ℕ) → is_ind (node_at graph x).kind ≡ false → x ≢ place → higher x ≡ assigned x

pub other_place : (assigned : Assignment) (id x : ℕ) (v : Value) → x ≢ id → raise assigned id v x ≡ assigned x
other_place assigned id x v other =
    by_test (nat_eq id x) (λ b. (if b then v else assigned x) ≡ assigned x) (λ same. absurd (other (sym (eqb-true id x same)))) (λ no_test. refl)

pub same_place : (assigned : Assignment) (id : ℕ) (v : Value) → raise assigned id v id ≡ v
same_place assigned id v =
    by_test (nat_eq id id) (λ b. (if b then v else assigned id) ≡ v) (λ same. refl) (λ other. absurd (true≢false (sym (eq-eqb id id refl) ∙ other)))

-- where the head of a node is its own place, or that of another one's head
pub data Follow (visits : ℕ) (graph : Graph) (id : ℕ) : Type 0 where
  is_itself : head_within (suc visits) graph id ≡ id → Follow visits graph id
  leads_on : (target : ℕ) (args : List ℕ) → node_at graph id ≡ node kind.Ind (target ∷ args) → head_within (suc visits) graph id ≡ head_within visits graph target
      → Follow visits graph id

pub follow_at : (visits : ℕ) (graph : Graph) (id : ℕ) (n : Node) → node_at graph id ≡ n → head_within (suc visits) graph id ≡ followed (head_within visits graph) id n.kind n.args
    → Follow visits graph id
follow_at visits graph id n is steps = go n.kind n.args is steps
  where
    go : (k : Kind) (args : List ℕ) → node_at graph id ≡ node k args → head_within (suc visits) graph id ≡ followed (head_within visits graph) id k args → Follow visits graph id
    go kind.Ind (target ∷ args) at leads = leads_on target args at leads
    go _ args at stays = is_itself stays

pub follow : (visits : ℕ) (graph : Graph) (id : ℕ) → Follow visits graph id
unfolding head_within
follow visits graph id = follow_at visits graph id (node_at graph id) refl refl

module _ (apart : ℕ → Bool) (program : Code) (claims : List Claim) (graph : Graph) (assigned : Assignment)
    (inds : (x : ℕ) → apart x ≡ true → is_ind (node_at graph x).kind ≡ false) where
  at_head : (id : ℕ) (v : Value) → GoodApart apart program claims graph assigned → Below (assigned id) v → IsTrue (is_of (program_of program) v)
      → (apart id ≡ false → MayHave NoValue program claims assigned (node_at graph id).kind (node_at graph id).args v)
      → Raised apart program claims graph assigned id id v
  at_head id v good up fit may = record {
    higher = raise assigned id v;
    good = raise_good apart program claims graph assigned id v good up fit may;
    rises = raise_rises assigned id v up;
    there = same_place assigned id v;
    kept = λ x plain other. other_place assigned id x v other;
  }

  along : (id target place : ℕ) (args : List ℕ) (v : Value) → node_at graph id ≡ node kind.Ind (target ∷ args) → IsTrue (is_of (program_of program) v)
      → Raised apart program claims graph assigned target place v → Raised apart program claims graph assigned id place v
  along id target place args v is fit at_target =
      let low = at_target.higher in
      let here : id < length graph = there_unless_stuck graph id kind.Ind (target ∷ args) is refl in
      let ind : is_ind (node_at graph id).kind ≡ true = ap (λ (n : Node). is_ind n.kind) is in
      let among : apart id ≡ false =
      by_test (apart id) (λ b. apart id ≡ b → b ≡ false) (λ yes_it same. absurd (true≢false (sym ind ∙ inds id yes_it))) (λ no_it same. refl) refl in
      let may : (w : Value) → Below w v → MayHave NoValue program claims low (node_at graph id).kind (node_at graph id).args w =
      λ w small. subst (λ (n : Node). MayHave NoValue program claims low n.kind n.args w) (sym is) (subst (λ (x : Value). Below w x) (sym at_target.there) small) in
      let has : MayHave NoValue program claims low (node_at graph id).kind (node_at graph id).args (low id) = at_target.good.each id here among in
      let up : Below (low id) v =
      subst (λ (x : Value). Below (low id) x) at_target.there (subst (λ (n : Node). MayHave NoValue program claims low n.kind n.args (low id)) is has) in
      record {
        higher = raise low id v;
        good = raise_good apart program claims graph low id v at_target.good up fit (λ apart_from. may v (below_itself v));
        rises = rises_trans assigned low (raise low id v) at_target.rises (raise_rises low id v up);
        there = same_place low id v;
        kept = λ x plain other.
            other_place low id x v (λ same. absurd (true≢false (sym (ap (λ (y : ℕ). is_ind (node_at graph y).kind) same ∙ ind) ∙ plain)))
            ∙ at_target.kept x plain other;
      }

  pub raised_within : (visits id place : ℕ) (v : Value) → GoodApart apart program claims graph assigned → head_within visits graph id ≡ place → Below (assigned place) v
      → IsTrue (is_of (program_of program) v) → (apart place ≡ false → MayHave NoValue program claims assigned (node_at graph place).kind (node_at graph place).args v)
      → Raised apart program claims graph assigned id place v
  unfolding head_within
  raised_within zero id place v good leads up fit may =
      subst (λ (x : ℕ). Raised apart program claims graph assigned x place v) (sym leads) (at_head place v good up fit may)
  raised_within (suc visits) id place v good leads up fit may = elim (follow visits graph id) [
    | is_itself same ↦
        let is : id ≡ place = sym same ∙ leads in subst (λ (x : ℕ). Raised apart program claims graph assigned x place v) (sym is) (at_head place v good up fit may)
    | leads_on target args is steps ↦ along id target place args v is fit (raised_within visits target place v good (sym steps ∙ leads) up fit may)
  ]

  -- a node raised to a value that its head may have
  pub raised_to : (id : ℕ) (v : Value) → GoodApart apart program claims graph assigned → Below (assigned (head_of graph id)) v
      → IsTrue (is_of (program_of program) v)
      → (apart (head_of graph id) ≡ false → MayHave NoValue program claims assigned (head_at graph id).kind (head_at graph id).args v)
      → Raised apart program claims graph assigned id (head_of graph id) v
  raised_to id v good up fit may = raised_within (length graph) id (head_of graph id) v good refl up fit may
