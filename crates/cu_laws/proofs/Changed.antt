-- From a successor to its predecessor: only the node that was rewritten differs.
use Rattle.std.proofs.Common.{◌≡◌, ◌≢◌, ℕ, ◌<◌, ◌≤◌, inl, Bool, true, false, List, refl, ap, sym, ◌∙◌, subst, length, nat_eq, eq-eqb, eqb-true, true≢false, arith, length-set, get_or-set_same, get_or-set_other}
use Rattle.cu_calculus.specs.Code.{Code}
use Rattle.cu_calculus.specs.Gives.{Claim}
use Rattle.cu_calculus.specs.Value as value
use Rattle.cu_calculus.specs.Value.{Value}
use Rattle.cu_machine.specs.declared.Kind.{Kind}
use Rattle.cu_machine.specs.declared.Kind.TheVariants as kind
use Rattle.cu_machine.specs.Build.{Built, instead, written}
use Rattle.cu_machine.specs.Graph.{Graph, Node, node_at, put, stuck}
use Rattle.cu_machine.specs.Steps.{node}
use Rattle.cu_machine.proofs.Frames.{at_old, at_same, length_written}
use Rattle.cu_laws.specs.Good.{Assignment, Good, MayHave, NoValue, RisesTo}
use Rattle.cu_laws.proofs.Raising.{GoodApart, by_test, is_ind, rises_itself}

-- a graph in which another node stands at a place, and further nodes at the end
pub record Changed (graph : Graph) (id : ℕ) (after : Graph) (new : Node) : Type 0 where
  pub here : id < length graph
  pub longer : length graph ≤ length after
  pub same : (x : ℕ) → x < length graph → x ≢ id → node_at after x ≡ node_at graph x
  pub there : node_at after id ≡ new

pub changed_by_put : (graph : Graph) (id : ℕ) (after : Graph) (new : Node) → id < length graph → after ≡ put graph id new → Changed graph id after new
changed_by_put graph id after new here is = subst (λ (g : Graph). Changed graph id g new) (sym is) (record {
  here = here;
  longer = let as_long = length-set graph id new in omega arith;
  same = λ x below other. get_or-set_other graph id x new stuck other;
  there = get_or-set_same graph id new stuck here;
})

pub changed_by_writing : (graph : Graph) (id : ℕ) (after : Graph) (built : Built) → id < length graph → after ≡ written graph id built
    → Changed graph id after (instead built.top)
changed_by_writing graph id after built here is = subst (λ (g : Graph). Changed graph id g (instead built.top)) (sym is) (record {
  here = here;
  longer = let as_long = length_written graph id built in omega arith;
  same = at_old graph id built;
  there = at_same graph id built here;
})

-- an assignment that is good for a successor, without its own node
pub apart_before : (program : Code) (claims : List Claim) (graph : Graph) (id : ℕ) (after : Graph) (new : Node) (assigned : Assignment) → Changed graph id after new
    → Good program claims after assigned → GoodApart (nat_eq id) program claims graph assigned
apart_before program claims graph id after new assigned changed good = record {
  of_program = good.of_program;
  each = λ x below other.
      let distinct : x ≢ id = λ same. true≢false (sym (eq-eqb id x (sym same)) ∙ other) in
      let longer = changed.longer in
      subst (λ (n : Node). MayHave NoValue program claims assigned n.kind n.args (assigned x)) (changed.same x below distinct) (good.each x (omega arith));
}

-- what the node may have there
pub new_may : (program : Code) (claims : List Claim) (graph : Graph) (id : ℕ) (after : Graph) (new : Node) (assigned : Assignment) → Changed graph id after new
    → Good program claims after assigned → MayHave NoValue program claims assigned new.kind new.args (assigned id)
new_may program claims graph id after new assigned changed good =
    let here = changed.here in
    let longer = changed.longer in
    subst (λ (n : Node). MayHave NoValue program claims assigned n.kind n.args (assigned id)) changed.there (good.each id (omega arith))

-- a good assignment that is at least as great
abbrev pub Sound : Code → List Claim → Graph → Assignment → Type 0
Sound program claims graph later = (earlier : Assignment) × Good program claims graph earlier × RisesTo later earlier

pub sound_as : (program : Code) (claims : List Claim) (graph : Graph) (id : ℕ) (k : Kind) (args : List ℕ) (later earlier : Assignment) → node_at graph id ≡ node k args
    → GoodApart (nat_eq id) program claims graph earlier → RisesTo later earlier → MayHave NoValue program claims earlier k args (earlier id)
    → Sound program claims graph later
sound_as program claims graph id k args later earlier is apart up may = (earlier, good, up)
  where
    good : Good program claims graph earlier
    good = record {
      of_program = apart.of_program;
      each = λ x below. by_test (nat_eq id x) (λ b. nat_eq id x ≡ b → MayHave NoValue program claims earlier (node_at graph x).kind (node_at graph x).args (earlier x))
          (λ same e.
          subst (λ (y : ℕ). MayHave NoValue program claims earlier (node_at graph y).kind (node_at graph y).args (earlier y)) (eqb-true id x same)
          (subst (λ (n : Node). MayHave NoValue program claims earlier n.kind n.args (earlier id)) (sym is) may))
          (λ other e. apart.each x below other) refl;
    }

-- ---- rows that end in failure

abbrev pub is_free : Kind → Bool
is_free kind.Free = true
is_free _ = false

pub bottom_may : (program : Code) (claims : List Claim) (assigned : Assignment) (k : Kind) (args : List ℕ) (v : Value) → is_free k ≡ false → is_ind k ≡ false
    → v ≡ value.Bottom → MayHave NoValue program claims assigned k args v
bottom_may program claims assigned kind.Free args v plain no_name none = absurd (true≢false plain)
bottom_may program claims assigned kind.Ind args v plain no_name none = absurd (true≢false no_name)
bottom_may program claims assigned kind.Fail args v plain no_name none = none
bottom_may program claims assigned kind.Stuck args v plain no_name none = none
bottom_may program claims assigned _ args v plain no_name none = inl none

-- a node that is rewritten: neither free nor an Ind nor stuck
abbrev pub is_rewritten : Kind → Bool
is_rewritten kind.Free = false
is_rewritten kind.Ind = false
is_rewritten kind.Stuck = false
is_rewritten _ = true

pub sound_of_nothing : (program : Code) (claims : List Claim) (graph : Graph) (id : ℕ) (after : Graph) (new : Node) (k : Kind) (args : List ℕ) (later : Assignment)
    → node_at graph id ≡ node k args → is_free k ≡ false → is_ind k ≡ false → Changed graph id after new → Good program claims after later
    → later id ≡ value.Bottom → Sound program claims graph later
sound_of_nothing program claims graph id after new k args later is plain no_name changed good none =
    sound_as program claims graph id k args later later is (apart_before program claims graph id after new later changed good) (rises_itself later)
    (bottom_may program claims later k args (later id) plain no_name none)

-- a node that is no Ind is set apart alone
pub apart_is_plain : (graph : Graph) (id : ℕ) (k : Kind) (args : List ℕ) → node_at graph id ≡ node k args → is_ind k ≡ false → (x : ℕ) → nat_eq id x ≡ true
    → is_ind (node_at graph x).kind ≡ false
apart_is_plain graph id k args is plain x same =
    subst (λ (y : ℕ). is_ind (node_at graph y).kind ≡ false) (eqb-true id x same) (ap (λ (n : Node). is_ind n.kind) is ∙ plain)
