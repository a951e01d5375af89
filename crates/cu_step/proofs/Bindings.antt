-- What a row of the step table leaves of a graph: nodes but the one that is rewritten stay as they
-- are, unless they are free variables, and what is written over a variable has its whole value
-- there.
use Rattle.std.proofs.Common.{◌≡◌, ◌≢◌, ℕ, ◌<◌, ◌≤◌, inl, inr, Bool, true, false, List, [], ◌∷◌, refl, ap, sym, ◌∙◌, subst, true≢false, length, arith}
use Rattle.std.specs.List.{list_all}
use Rattle.cu_calculus.specs.declared.ConId.{ConId}
use Rattle.cu_calculus.specs.declared.Lit.{Lit}
use Rattle.cu_machine.specs.declared.Kind.{Kind}
use Rattle.cu_machine.specs.declared.Kind.TheVariants as kind
use Rattle.cu_machine.specs.Build.{Built, written}
use Rattle.cu_machine.specs.Graph.{Graph, Node, node_at, renaming}
use Rattle.cu_machine.specs.Steps.{node}
use Rattle.cu_machine.specs.Validity.{is_plain}
use Rattle.cu_machine.proofs.Frames.{at_old, length_written, same_or_other}
use Rattle.cu_machine.proofs.Fuel.{both_true, left_true, right_true}
use Rattle.cu_machine.proofs.NeedPlaces.{is_ready}
use Rattle.cu_machine.proofs.Rows.{plain_there}

-- ---- kinds

-- whether a node of this kind is never rewritten, but where it is a free variable
abbrev pub is_fixed : Kind → Bool
is_fixed (kind.Cons c) = true
is_fixed (kind.Lit l) = true
is_fixed (kind.Part h) = true
is_fixed kind.Free = true
is_fixed kind.Ind = true
is_fixed _ = false

abbrev pub is_free : Kind → Bool
is_free kind.Free = true
is_free _ = false

pub plain_fixed : (k : Kind) → is_plain k ≡ true → is_fixed k ≡ true
plain_fixed kind.Free is = refl
plain_fixed (kind.Lit l) is = refl
plain_fixed (kind.Cons c) is = refl
plain_fixed kind.Ind is = refl
plain_fixed _ is = let none_left : ⊥ = true≢false (sym is) in absurd none_left

pub free_plain : (k : Kind) → is_free k ≡ true → is_plain k ≡ true
free_plain kind.Free is = refl
free_plain _ is = let none_left : ⊥ = true≢false (sym is) in absurd none_left

pub redex_unfixed : (graph : Graph) (k : Kind) (args : List ℕ) → is_plain k ≡ false → is_ready graph k args ≡ true → is_fixed k ≡ false
redex_unfixed graph (kind.Cons c) args plain ready = let none_left : ⊥ = true≢false plain in absurd none_left
redex_unfixed graph (kind.Lit l) args plain ready = let none_left : ⊥ = true≢false plain in absurd none_left
redex_unfixed graph kind.Free args plain ready = let none_left : ⊥ = true≢false plain in absurd none_left
redex_unfixed graph kind.Ind args plain ready = let none_left : ⊥ = true≢false plain in absurd none_left
redex_unfixed graph (kind.Part h) args plain ready = let none_left : ⊥ = true≢false (sym ready) in absurd none_left
redex_unfixed graph _ args plain ready = refl

-- ---- what a variable becomes

abbrev pub is_variable : Graph → ℕ → Bool
is_variable graph x = is_free (node_at graph x).kind

-- a node whose whole value is there, at first sight
pub data Settled (graph : Graph) (x : ℕ) : Type 0 where
  variable : (args : List ℕ) → node_at graph x ≡ node kind.Free args → Settled graph x
  literal : (l : Lit) (args : List ℕ) → node_at graph x ≡ node (kind.Lit l) args → Settled graph x
  constructed : (c : ConId) (args : List ℕ) → node_at graph x ≡ node (kind.Cons c) args → list_all (is_variable graph) args ≡ true → Settled graph x

-- what stands where a free variable stood
pub data Became (graph : Graph) (x : ℕ) : Type 0 where
  settled : Settled graph x → Became graph x
  renamed : (other : ℕ) → node_at graph x ≡ renaming other → Settled graph other → Became graph x

-- After some variables were bound, other nodes are as they were.
pub record Binds (graph after : Graph) : Type 0 where
  pub longer : length graph ≤ length after
  pub same : (x : ℕ) → x < length graph → is_variable graph x ≡ false → node_at after x ≡ node_at graph x
  pub bound : (x : ℕ) → is_variable graph x ≡ true → Became after x

-- After the node `id` was rewritten, other nodes are as they were, but for variables that were
-- bound.
pub record Keeps (graph after : Graph) (id : ℕ) : Type 0 where
  pub longer : length graph ≤ length after
  pub same : (x : ℕ) → x < length graph → x ≢ id → is_variable graph x ≡ false → node_at after x ≡ node_at graph x
  pub bound : (x : ℕ) → is_variable graph x ≡ true → Became after x

-- ---- one node is written

pub kind_is : (graph : Graph) (x : ℕ) (k : Kind) (args : List ℕ) (p : Kind → Bool) → node_at graph x ≡ node k args → p (node_at graph x).kind ≡ p k
kind_is graph x k args p is = ap (λ (n : Node). p n.kind) is

pub free_there : (graph : Graph) (x : ℕ) → is_variable graph x ≡ true → x < length graph
free_there graph x is = plain_there graph x (free_plain (node_at graph x).kind is)

pub apart_by : (graph : Graph) (p : Kind → Bool) (x id : ℕ) → p (node_at graph x).kind ≡ true → p (node_at graph id).kind ≡ false → x ≢ id
apart_by graph p x id one two same = true≢false (sym one ∙ ap (λ (y : ℕ). p (node_at graph y).kind) same ∙ two)

-- what is plain stays where another node is rewritten
pub plain_stays : (graph : Graph) (id : ℕ) (built : Built) (x : ℕ) → is_fixed (node_at graph id).kind ≡ false → is_plain (node_at graph x).kind ≡ true
    → node_at (written graph id built) x ≡ node_at graph x
plain_stays graph id built x redex plain =
    at_old graph id built x (plain_there graph x plain) (apart_by graph is_fixed x id (plain_fixed (node_at graph x).kind plain) redex)

pub variable_stays : (graph : Graph) (id : ℕ) (built : Built) (x : ℕ) → is_fixed (node_at graph id).kind ≡ false → is_variable graph x ≡ true
    → is_variable (written graph id built) x ≡ true
variable_stays graph id built x redex is =
    ap (λ (n : Node). is_free n.kind) (plain_stays graph id built x redex (free_plain (node_at graph x).kind is)) ∙ is

pub variables_stay : (graph : Graph) (id : ℕ) (built : Built) (xs : List ℕ) → is_fixed (node_at graph id).kind ≡ false → list_all (is_variable graph) xs ≡ true
    → list_all (is_variable (written graph id built)) xs ≡ true
variables_stay graph id built [] redex all = refl
variables_stay graph id built (x ∷ xs) redex all =
    both_true (is_variable (written graph id built) x) (list_all (is_variable (written graph id built)) xs)
    (variable_stays graph id built x redex (left_true (is_variable graph x) (list_all (is_variable graph) xs) all))
    (variables_stay graph id built xs redex (right_true (is_variable graph x) (list_all (is_variable graph) xs) all))

pub settled_stays : (graph : Graph) (id : ℕ) (built : Built) (x : ℕ) → is_fixed (node_at graph id).kind ≡ false → Settled graph x → Settled (written graph id built) x
settled_stays graph id built x redex (variable args is) =
    variable args (plain_stays graph id built x redex (kind_is graph x kind.Free args is_plain is) ∙ is)
settled_stays graph id built x redex (literal l args is) =
    literal l args (plain_stays graph id built x redex (kind_is graph x (kind.Lit l) args is_plain is) ∙ is)
settled_stays graph id built x redex (constructed c args is all) =
    constructed c args (plain_stays graph id built x redex (kind_is graph x (kind.Cons c) args is_plain is) ∙ is) (variables_stay graph id built args redex all)

pub became_stays : (graph : Graph) (id : ℕ) (built : Built) (x : ℕ) → is_fixed (node_at graph id).kind ≡ false → Became graph x → Became (written graph id built) x
became_stays graph id built x redex (settled is) = settled (settled_stays graph id built x redex is)
became_stays graph id built x redex (renamed other is there) =
    renamed other (plain_stays graph id built x redex (kind_is graph x kind.Ind (other ∷ []) is_plain is) ∙ is) (settled_stays graph id built other redex there)

pub unfixed_bound : (k : Kind) → is_fixed k ≡ false → is_free k ≡ false
unfixed_bound kind.Free is = is
unfixed_bound _ is = refl

pub writing_keeps : (graph bound : Graph) (id : ℕ) (built : Built) → id < length graph → is_fixed (node_at graph id).kind ≡ false → Binds graph bound
    → Keeps graph (written bound id built) id
writing_keeps graph bound id built here redex binds =
    let longer = binds.longer in
    let redex_still : is_fixed (node_at bound id).kind ≡ false =
    ap (λ (n : Node). is_fixed n.kind) (binds.same id here (unfixed_bound (node_at graph id).kind redex)) ∙ redex in record {
      longer = omega (arith, length_written bound id built);
      same = λ x below other still. at_old bound id built x (omega arith) other ∙ binds.same x below still;
      bound = λ x is. became_stays bound id built x redex_still (binds.bound x is);
    }

pub node_is : (n : Node) → is_free n.kind ≡ true → (args : List ℕ) × (n ≡ node kind.Free args)
node_is n is = (n.args, go n.kind is)
  where
    go : (k : Kind) → is_free k ≡ true → node k n.args ≡ node kind.Free n.args
    go kind.Free same = refl
    go _ same = let none_left : ⊥ = true≢false (sym same) in absurd none_left

pub is_settled : (graph : Graph) (x : ℕ) → is_variable graph x ≡ true → Settled graph x
is_settled graph x is = let this = node_is (node_at graph x) is in variable this.0 this.1

pub binds_none : (graph : Graph) → Binds graph graph
binds_none graph = record {
  longer = omega arith;
  same = λ x below still. refl;
  bound = λ x is. settled (is_settled graph x is);
}

pub binding_binds : (graph : Graph) (v : ℕ) (built : Built) → is_variable graph v ≡ true → Became (written graph v built) v → Binds graph (written graph v built)
binding_binds graph v built free there = record {
  longer = omega (arith, length_written graph v built);
  same = λ x below still. at_old graph v built x below (λ same. true≢false (sym free ∙ ap (is_variable graph) (sym same) ∙ still));
  bound = λ x is. elim (same_or_other x v) [
    | inl same ↦ subst (λ (y : ℕ). Became (written graph v built) y) (sym same) there
    | inr other ↦
        settled (is_settled (written graph v built) x
        (ap (λ (n : Node). is_free n.kind) (at_old graph v built x (free_there graph x is) other) ∙ is))
  ];
}
