-- A free variable that was bound: its value before is the whole value of what it became.
use Rattle.std.proofs.Common.{◌≡◌, ◌≢◌, ℕ, zero, suc, ◌+◌, ◌<◌, ◌≤◌, Bool, true, false, List, ◌++◌, Some, IsTrue, refl, ap, sym, ◌∙◌, subst, length, nat_eq, eq-eqb, eqb-true, true≢false, get_or, arith, length-append, length-set, get_or-set_same, get_or-set_other, get_or-append-add}
use Rattle.std.proofs.lemmas.Bool.{and_from, and_parts}
use Rattle.std.proofs.lemmas.List.{get_or_append_left}
use Rattle.cu_calculus.specs.declared.ConId.{ConId}
use Rattle.cu_calculus.specs.Below.{Below}
use Rattle.cu_calculus.specs.Code.{Code}
use Rattle.cu_calculus.specs.FlatProgram.{program_of}
use Rattle.cu_calculus.specs.Gives.{Claim}
use Rattle.cu_calculus.specs.Shape.{are_data, are_total, is_data, is_of, is_total, is_total_data}
use Rattle.cu_calculus.specs.Value.{Value}
use Rattle.cu_machine.specs.declared.Kind.{Kind}
use Rattle.cu_machine.specs.declared.Kind.TheVariants as kind
use Rattle.cu_machine.specs.Graph.{Graph, Node, alone, node_at, stuck}
use Rattle.cu_machine.specs.State.{free_nodes, numbers}
use Rattle.cu_machine.specs.Steps.{imitating, node}
use Rattle.cu_machine.specs.Validity.{has_arguments}
use Rattle.cu_laws.specs.Good.{Assignment, Good, MayHave, NoValue, RisesTo}
use Rattle.cu_laws.proofs.Heads.{made, made_is_most, made_may, made_of, values_at}
use Rattle.cu_laws.proofs.Raising.{GoodApart, other_place, raise, raise_good, raise_rises, same_place}

-- ---- raising in a successor

abbrev pub nowhere : ℕ → Bool
nowhere x = false

pub good_everywhere : (program : Code) (claims : List Claim) (graph : Graph) (assigned : Assignment) → Good program claims graph assigned
    → GoodApart nowhere program claims graph assigned
good_everywhere program claims graph assigned good = record { of_program = good.of_program; each = λ x below among. good.each x below }

-- an assignment that is good everywhere and at least as great, in which a place has a value and
-- others what they had
pub record Filled (program : Code) (claims : List Claim) (graph : Graph) (assigned : Assignment) (place : ℕ) (v : Value) : Type 0 where
  pub higher : Assignment
  pub good : GoodApart nowhere program claims graph higher
  pub rises : RisesTo assigned higher
  pub there : higher place ≡ v
  pub kept : (x : ℕ) → x ≢ place → higher x ≡ assigned x

-- a place raised to a value that it may have
pub filled : (program : Code) (claims : List Claim) (graph : Graph) (assigned : Assignment) (place : ℕ) (v : Value) → GoodApart nowhere program claims graph assigned
    → Below (assigned place) v → IsTrue (is_of (program_of program) v) → MayHave NoValue program claims assigned (node_at graph place).kind (node_at graph place).args v
    → Filled program claims graph assigned place v
filled program claims graph assigned place v good up fit may = record {
  higher = raise assigned place v;
  good = raise_good nowhere program claims graph assigned place v good up fit (λ among. may);
  rises = raise_rises assigned place v up;
  there = same_place assigned place v;
  kept = λ x other. other_place assigned place x v other;
}

-- a place raised to the value that it is the head of
pub filled_head : (program : Code) (claims : List Claim) (graph : Graph) (assigned : Assignment) (place : ℕ) (k : Kind) (args : List ℕ) (v : Value)
    → GoodApart nowhere program claims graph assigned → place < length graph → node_at graph place ≡ node k args → has_arguments program k (length args) ≡ true
    → made k (values_at assigned args) ≡ Some v → Filled program claims graph assigned place v
filled_head program claims graph assigned place k args v good here is whole made_is =
    let has : MayHave NoValue program claims assigned k args (assigned place) =
    subst (λ (n : Node). MayHave NoValue program claims assigned n.kind n.args (assigned place)) is (good.each place here refl) in
    filled program claims graph assigned place v good (made_is_most program claims assigned k args (assigned place) v has made_is)
    (made_of program assigned k args v good.of_program whole made_is)
    (subst (λ (n : Node). MayHave NoValue program claims assigned n.kind n.args v) (sym is) (made_may program claims assigned k args v made_is))

-- ---- graphs in which a free variable was bound

-- a graph in which other nodes stand at the place of a free variable and at a further place, and
-- nodes at the end
pub record Bound (graph : Graph) (v id : ℕ) (after : Graph) (new : Node) : Type 0 where
  pub args : List ℕ
  pub free : node_at graph v ≡ node kind.Free args
  pub here : v < length graph
  pub longer : length graph ≤ length after
  pub same : (x : ℕ) → x < length graph → x ≢ v → x ≢ id → node_at after x ≡ node_at graph x
  pub there : node_at after v ≡ new

not_same : (x y : ℕ) → nat_eq x y ≡ false → y ≢ x
not_same x y differ same = true≢false (sym (eq-eqb x y (sym same)) ∙ differ)

-- where the variable has total data, the assignment is good before, apart from the further place
pub before_binding : (program : Code) (claims : List Claim) (graph : Graph) (v id : ℕ) (after : Graph) (new : Node) (assigned : Assignment) → Bound graph v id after new
    → GoodApart nowhere program claims after assigned → is_total_data (assigned v) ≡ true → GoodApart (nat_eq id) program claims graph assigned
before_binding program claims graph v id after new assigned bound good total = record {
  of_program = good.of_program;
  each = λ x below among. at x below (not_same id x among) (nat_eq v x) refl;
}
  where
    at : (x : ℕ) → x < length graph → x ≢ id → (b : Bool) → nat_eq v x ≡ b → MayHave NoValue program claims assigned (node_at graph x).kind (node_at graph x).args (assigned x)
    at x below other true same =
        subst (λ (y : ℕ). MayHave NoValue program claims assigned (node_at graph y).kind (node_at graph y).args (assigned y)) (eqb-true v x same)
        (subst (λ (n : Node). MayHave NoValue program claims assigned n.kind n.args (assigned v)) (sym bound.free) total)
    at x below other false differ =
        let longer = bound.longer in
        subst (λ (n : Node). MayHave NoValue program claims assigned n.kind n.args (assigned x)) (bound.same x below (not_same v x differ) other) (good.each x (omega arith) refl)

-- ---- new free variables

pub length_free : (n : ℕ) → length (free_nodes n) ≡ n
length_free zero = refl
length_free (suc n) = ap suc (length_free n)

pub length_numbers : (from n : ℕ) → length (numbers from n) ≡ n
length_numbers from zero = refl
length_numbers from (suc n) = ap suc (length_numbers (from + 1) n)

free_at : (n i : ℕ) → i < n → get_or (free_nodes n) i stuck ≡ alone kind.Free
free_at zero i below = let no : ⊥ = omega arith in absurd no
free_at (suc n) zero below = refl
free_at (suc n) (suc i) below = free_at n i (omega arith)

-- values of places one after another, all of which are total data
pub all_total_data : (assigned : Assignment) (from n : ℕ) → ((i : ℕ) → i < n → is_total_data (assigned (from + i)) ≡ true)
    → (are_total (values_at assigned (numbers from n)) ≡ true) × (are_data (values_at assigned (numbers from n)) ≡ true)
all_total_data assigned from zero each = (refl, refl)
all_total_data assigned from (suc n) each =
    let first : is_total_data (assigned from) ≡ true = subst (λ (x : ℕ). is_total_data (assigned x) ≡ true) (omega arith) (each 0 (omega arith)) in
    let parts = and_parts (is_total (assigned from)) (is_data (assigned from)) first in
    let rest = all_total_data assigned (from + 1) n
    (λ i below. subst (λ (x : ℕ). is_total_data (assigned x) ≡ true) (shift i) (each (suc i) (omega arith))) in (
      and_from (is_total (assigned from)) (are_total (values_at assigned (numbers (from + 1) n))) parts.0 rest.0,
      and_from (is_data (assigned from)) (are_data (values_at assigned (numbers (from + 1) n))) parts.1 rest.1,
    )
  where
    shift : (i : ℕ) → from + suc i ≡ (from + 1) + i
    shift i = omega arith

-- ---- a variable bound to a constructor over new variables

pub length_imitating : (graph : Graph) (v : ℕ) (c : ConId) (n : ℕ) → length (imitating graph v c n) ≡ length graph + n
length_imitating graph v c n =
    length-set (graph ++ free_nodes n) v (node (kind.Cons c) (numbers (length graph) n)) ∙ length-append graph (free_nodes n) ∙ ap (λ (m : ℕ). length graph + m) (length_free n)

pub imitating_same : (graph : Graph) (v : ℕ) (c : ConId) (n x : ℕ) → x < length graph → x ≢ v → node_at (imitating graph v c n) x ≡ node_at graph x
imitating_same graph v c n x below other =
    get_or-set_other (graph ++ free_nodes n) v x (node (kind.Cons c) (numbers (length graph) n)) stuck other ∙ get_or_append_left graph (free_nodes n) stuck x below

pub imitating_there : (graph : Graph) (v : ℕ) (c : ConId) (n : ℕ) → v < length graph → node_at (imitating graph v c n) v ≡ node (kind.Cons c) (numbers (length graph) n)
imitating_there graph v c n here =
    get_or-set_same (graph ++ free_nodes n) v (node (kind.Cons c) (numbers (length graph) n)) stuck (rw (length-append graph (free_nodes n)) (omega arith))

pub imitating_new : (graph : Graph) (v : ℕ) (c : ConId) (n i : ℕ) → v < length graph → i < n → node_at (imitating graph v c n) (length graph + i) ≡ alone kind.Free
imitating_new graph v c n i here below =
    get_or-set_other (graph ++ free_nodes n) v (length graph + i) (node (kind.Cons c) (numbers (length graph) n)) stuck (λ same. let no : ⊥ = omega arith in no)
    ∙ get_or-append-add graph (free_nodes n) i stuck ∙ free_at n i below
