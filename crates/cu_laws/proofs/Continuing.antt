-- From an assignment for a graph to one for a graph that follows, in which one node differs and
-- further ones stand at the end.
use Rattle.std.proofs.Common.{◌≡◌, ℕ, ◌<◌, ◌≤◌, ◌⊎◌, inl, inr, List, IsTrue, refl, sym, subst, length, arith, length-set}
use Rattle.std.proofs.lemmas.Bool.{cases_lt}
use Rattle.cu_calculus.specs.Below as below
use Rattle.cu_calculus.specs.Below.{Below}
use Rattle.cu_calculus.specs.Code.{Code}
use Rattle.cu_calculus.specs.FlatProgram.{program_of}
use Rattle.cu_calculus.specs.Gives.{Claim}
use Rattle.cu_calculus.specs.Shape.{is_of}
use Rattle.cu_calculus.specs.Value.{Value}
use Rattle.cu_calculus.proofs.BelowLaws.{below_itself}
use Rattle.cu_machine.specs.Graph.{Graph, Node, node_at, put}
use Rattle.cu_machine.proofs.Frames.{same_or_other}
use Rattle.cu_laws.specs.Continues.{Continues, NothingPast}
use Rattle.cu_laws.specs.Extends.{Extends}
use Rattle.cu_laws.specs.Good.{Assignment, Loose, MayHave, RisesTo}
use Rattle.cu_laws.proofs.Changed.{Changed, changed_by_put}
use Rattle.cu_laws.proofs.LooseNodes.{AnyValue, loosened}
use Rattle.cu_laws.proofs.Rising.{may_rise}

-- ---- graphs that follow

pub same_rises : (graph : Graph) (assigned later : Assignment) → NothingPast graph assigned → ((x : ℕ) → x < length graph → later x ≡ assigned x)
    → RisesTo assigned later
same_rises graph assigned later past same x = elim (cases_lt x (length graph)) [
  | inl there ↦ subst (λ (v : Value). Below (assigned x) v) (sym (same x there)) (below_itself (assigned x))
  | inr after ↦ subst (λ (v : Value). Below v (later x)) (sym (past x after)) (below.bottom (later x))
]

-- an assignment that keeps what the old nodes have: each node stayed, or has what it may have
pub continues_where : (program : Code) (claims : List Claim) (graph after : Graph) (assigned later : Assignment) → Loose program claims graph assigned
    → NothingPast graph assigned → ((x : ℕ) → IsTrue (is_of (program_of program) (later x))) → NothingPast after later
    → ((x : ℕ) → x < length graph → later x ≡ assigned x)
    → ((x : ℕ) → x < length after → ((x < length graph) × (node_at after x ≡ node_at graph x))
    ⊎ MayHave AnyValue program claims later (node_at after x).kind (node_at after x).args (later x))
    → Continues program claims graph after assigned later
continues_where program claims graph after assigned later loose past all suffix same each =
    record {
      loose = record { of_program = all; each = λ x below. elim (each x below) [ inl stays ↦ old x stays.0 stays.1 | inr may ↦ may ] };
      past = suffix;
      same = same;
    }
  where
    old : (x : ℕ) → x < length graph → node_at after x ≡ node_at graph x → MayHave AnyValue program claims later (node_at after x).kind (node_at after x).args (later x)
    old x there stays =
        subst (λ (n : Node). MayHave AnyValue program claims later n.kind n.args (later x)) (sym stays)
        (subst (λ (v : Value). MayHave AnyValue program claims later (node_at graph x).kind (node_at graph x).args v) (sym (same x there))
        (may_rise AnyValue program claims assigned later (node_at graph x).kind (node_at graph x).args (assigned x) (same_rises graph assigned later past same)
        (loose.each x there)))

-- an assignment for a graph that follows, where one node differs and further ones stand at the end
pub continues : (program : Code) (claims : List Claim) (graph after : Graph) (id : ℕ) (new : Node) (assigned later : Assignment) → Changed graph id after new
    → Loose program claims graph assigned → NothingPast graph assigned → ((x : ℕ) → IsTrue (is_of (program_of program) (later x)))
    → NothingPast after later → ((x : ℕ) → x < length graph → later x ≡ assigned x)
    → ((x : ℕ) → x < length after → (x ≡ id) ⊎ (length graph ≤ x) → MayHave AnyValue program claims later (node_at after x).kind (node_at after x).args (later x))
    → Continues program claims graph after assigned later
continues program claims graph after id new assigned later changed loose past all suffix same each =
    continues_where program claims graph after assigned later loose past all suffix same (λ x below. elim (same_or_other x id) [
      | inl here ↦ inr (each x below (inl here))
      | inr other ↦ elim (cases_lt x (length graph)) [ inl there ↦ inl (there, changed.same x there other) | inr new_one ↦ inr (each x below (inr new_one)) ]
    ])

pub continues_by : (program : Code) (claims : List Claim) (graph after : Graph) (id : ℕ) (new : Node) (assigned later : Assignment) → Changed graph id after new
    → Loose program claims graph assigned → NothingPast graph assigned → Extends program claims graph id after assigned later
    → Continues program claims graph after assigned later
continues_by program claims graph after id new assigned later changed loose past extends =
    continues program claims graph after id new assigned later changed loose past extends.of_program extends.past extends.same
    (λ x below at. loosened program claims later (node_at after x).kind (node_at after x).args (later x) (extends.each x below at))

-- some graph that a row leads to keeps every value
abbrev pub Kept : Code → List Claim → Graph → Graph → Assignment → Type 0
Kept program claims graph after assigned = (later : Assignment) × Continues program claims graph after assigned later

-- one node, which may have what the old one had
pub kept_by_put : (program : Code) (claims : List Claim) (graph after : Graph) (id : ℕ) (new : Node) (assigned : Assignment) → id < length graph → after ≡ put graph id new
    → Loose program claims graph assigned → NothingPast graph assigned → MayHave AnyValue program claims assigned new.kind new.args (assigned id)
    → Kept program claims graph after assigned
kept_by_put program claims graph after id new assigned here after_is loose past may = (
  assigned,
  continues program claims graph after id new assigned assigned changed loose past loose.of_program (λ x later. past x (no_longer x later)) (λ x below. refl)
      (λ x below at. elim at [
        | inl same ↦
            subst (λ (y : ℕ). MayHave AnyValue program claims assigned (node_at after y).kind (node_at after y).args (assigned y)) (sym same)
            (subst (λ (n : Node). MayHave AnyValue program claims assigned n.kind n.args (assigned id)) (sym changed.there) may)
        | inr later ↦ absurd (none_new x below later)
      ]),
)
  where
    changed : Changed graph id after new
    changed = changed_by_put graph id after new here after_is

    as_long : length after ≡ length graph
    as_long = subst (λ (g : Graph). length g ≡ length graph) (sym after_is) (length-set graph id new)

    no_longer : (x : ℕ) → length after ≤ x → length graph ≤ x
    no_longer x later = let long = as_long in omega arith

    none_new : (x : ℕ) → x < length after → length graph ≤ x → ⊥
    none_new x below later = let long = as_long in omega arith
