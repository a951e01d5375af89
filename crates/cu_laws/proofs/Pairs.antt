-- What is built of pairs: a node over each of them, joined from the right.
use Rattle.std.proofs.Common.{◌≡◌, ℕ, suc, ◌+◌, ◌<◌, true, List, [], ◌∷◌, IsTrue, refl, ap, sym, subst, length, zip, arith}
use Rattle.cu_calculus.specs.Below.{Below}
use Rattle.cu_calculus.specs.Builtin.{truth_of}
use Rattle.cu_calculus.specs.Code.{Code}
use Rattle.cu_calculus.specs.FlatProgram.{program_of}
use Rattle.cu_calculus.specs.Gives.{Claim}
use Rattle.cu_calculus.specs.Shape.{is_of}
use Rattle.cu_calculus.specs.Value as value
use Rattle.cu_calculus.specs.Value.{Value, Values}
use Rattle.cu_calculus.proofs.BelowLaws.{below_itself}
use Rattle.cu_machine.specs.declared.Kind.{Kind}
use Rattle.cu_machine.specs.Build.{instead, place_of, written}
use Rattle.cu_machine.specs.Graph.{Graph, Node, put}
use Rattle.cu_machine.specs.Rewrite.{alone_follows, build_pairs, joined_from_right, pair_nodes, pairwise_step, truth_node}
use Rattle.cu_laws.proofs.Changed.{Changed, changed_by_put, changed_by_writing}
use Rattle.cu_laws.proofs.Truth.{telling_low}
use Rattle.cu_laws.specs.Good.{Assignment, Good, MayHave, NoValue}
use Rattle.cu_laws.proofs.Built.{AllMay, TopMay, all_may_split, pushed_may, written_may}
use Rattle.cu_laws.proofs.Heads.{values_at}

abbrev pub firsts : List (ℕ × ℕ) → List ℕ
firsts [] = []
firsts ((a, b) ∷ pairs) = a ∷ firsts pairs

abbrev pub seconds : List (ℕ × ℕ) → List ℕ
seconds [] = []
seconds ((a, b) ∷ pairs) = b ∷ seconds pairs

pub zip_firsts : (xs ys : List ℕ) → length xs ≡ length ys → firsts (zip xs ys) ≡ xs
zip_firsts [] ys same = refl
zip_firsts (x ∷ xs) [] same = let no : ⊥ = omega (arith, same) in absurd no
zip_firsts (x ∷ xs) (y ∷ ys) same = ap (λ (zs : List ℕ). x ∷ zs) (zip_firsts xs ys (omega (arith, same)))

pub zip_seconds : (xs ys : List ℕ) → length xs ≡ length ys → seconds (zip xs ys) ≡ ys
zip_seconds [] [] same = refl
zip_seconds [] (y ∷ ys) same = let no : ⊥ = omega (arith, same) in absurd no
zip_seconds (x ∷ xs) [] same = let no : ⊥ = omega (arith, same) in absurd no
zip_seconds (x ∷ xs) (y ∷ ys) same = ap (λ (zs : List ℕ). y ∷ zs) (zip_seconds xs ys (omega (arith, same)))

-- What a node over a pair says of two values, and what joined nodes say of all of them.
pub record Says (program : Code) (claims : List Claim) (assigned : Assignment) (each joint : Kind) (One : Value → Value → Value → Type 0)
    (All : Values → Values → Value → Type 0) : Type 0 where
  pub one : (a b : ℕ) (v : Value) → MayHave NoValue program claims assigned each (a ∷ b ∷ []) v → One (assigned a) (assigned b) v
  pub last : (a b v w : Value) → One a b v → Below w v → All (value.MoreValues a value.NoValue) (value.MoreValues b value.NoValue) w
  pub step : (a b : Value) (us vs : Values) (i j : ℕ) (v : Value) → One a b (assigned i) → All us vs (assigned j)
      → MayHave NoValue program claims assigned joint (i ∷ j ∷ []) v → All (value.MoreValues a us) (value.MoreValues b vs) v
  pub nothing : (v : Value) → Below v (truth_of (program_of program) true) → All value.NoValue value.NoValue v

module _ (program : Code) (claims : List Claim) (assigned : Assignment) (all : (id : ℕ) → IsTrue (is_of (program_of program) (assigned id))) (each joint : Kind)
    (One : Value → Value → Value → Type 0) (All : Values → Values → Value → Type 0) (says : Says program claims assigned each joint One All) where
  abbrev EachSays : ℕ → List (ℕ × ℕ) → Type 0
  EachSays place [] = Unit {0}
  EachSays place ((a, b) ∷ pairs) = One (assigned a) (assigned b) (assigned place) × EachSays (suc place) pairs

  each_says : (place : ℕ) (pairs : List (ℕ × ℕ)) → AllMay program claims assigned all place (pair_nodes each pairs) → EachSays place pairs
  each_says place [] may = tt
  each_says place ((a, b) ∷ pairs) may = (says.one a b (assigned place) may.0, each_says (suc place) pairs may.1)

  joined_says : (next place : ℕ) (a b : ℕ) (pairs : List (ℕ × ℕ)) (v : Value) → EachSays place ((a, b) ∷ pairs)
      → AllMay program claims assigned all next (joined_from_right joint next place (length pairs)).parts
      → TopMay program claims assigned all (joined_from_right joint next place (length pairs)).top v
      → All (values_at assigned (a ∷ firsts pairs)) (values_at assigned (b ∷ seconds pairs)) v
  joined_says next place a b [] v each_one may top = says.last (assigned a) (assigned b) (assigned place) v each_one.0 top
  joined_says next place a b ((c, d) ∷ pairs) v each_one may top =
      let rest = joined_from_right joint next (place + 1) (length pairs) in
      let below = pushed_may program claims assigned all next rest may in
      let later : EachSays (place + 1) ((c, d) ∷ pairs) = subst (λ (n : ℕ). EachSays n ((c, d) ∷ pairs)) (omega arith) each_one.1 in
      let others = joined_says next (place + 1) c d pairs (assigned (place_of next rest)) later below.0 below.1 in
      says.step (assigned a) (assigned b) (values_at assigned (c ∷ firsts pairs)) (values_at assigned (d ∷ seconds pairs)) place (place_of next rest) v each_one.0 others top

  pub pairs_say : (next a b : ℕ) (pairs : List (ℕ × ℕ)) (v : Value) → AllMay program claims assigned all next (build_pairs each joint next (a, b) pairs).parts
      → TopMay program claims assigned all (build_pairs each joint next (a, b) pairs).top v
      → All (values_at assigned (a ∷ firsts pairs)) (values_at assigned (b ∷ seconds pairs)) v
  pairs_say next a b [] v may top = says.last (assigned a) (assigned b) v v (says.one a b v top) (below_itself v)
  pairs_say next a b ((c, d) ∷ pairs) v may top =
      let nodes = pair_nodes each ((a, b) ∷ (c, d) ∷ pairs) in
      let after = next + length nodes in
      let more : length pairs + 1 ≡ length ((c, d) ∷ pairs) = omega arith in
      let both = all_may_split program claims assigned all next nodes (joined_from_right joint after next (length pairs + 1)).parts may in
      let parts = subst (λ (n : ℕ). AllMay program claims assigned all after (joined_from_right joint after next n).parts) more both.1 in
      let outer = subst (λ (n : ℕ). TopMay program claims assigned all (joined_from_right joint after next n).top v) more top in
      joined_says after next a b ((c, d) ∷ pairs) v (each_says next ((a, b) ∷ (c, d) ∷ pairs) both.0) parts outer

pub one_follows : (graph after : Graph) → alone_follows graph ≡ alone_follows after → after ≡ graph
one_follows graph after same = let lists : graph ∷ [] ≡ after ∷ [] = cc in let graphs : graph ≡ after = cc in sym graphs

-- The arguments of two like constructors in pairs, written over a node: what stands there is what
-- is said of them all.
pub record PairsAfter (program : Code) (claims : List Claim) (graph : Graph) (id : ℕ) (after : Graph) (All : Values → Values → Value → Type 0) (us vs : List ℕ)
    (later : Assignment) : Type 0 where
  pub new : Node
  pub changed : Changed graph id after new
  pub say : All (values_at later us) (values_at later vs) (later id)

pub pairs_after : (program : Code) (claims : List Claim) (graph after : Graph) (id : ℕ) (each joint : Kind) (One : Value → Value → Value → Type 0)
    (All : Values → Values → Value → Type 0) (us vs : List ℕ) (later : Assignment) → id < length graph → Says program claims later each joint One All
    → length us ≡ length vs → pairwise_step program.special each joint graph id (zip us vs) ≡ alone_follows after → Good program claims after later
    → PairsAfter program claims graph id after All us vs later
pairs_after program claims graph after id each joint One All [] [] later here says same is good =
    let after_is = one_follows (put graph id (truth_node program.special true)) after is in
    record {
      new = truth_node program.special true;
      changed = changed_by_put graph id after (truth_node program.special true) here after_is;
      say = says.nothing (later id) (telling_low program claims graph after id true later here after_is good);
    }
pairs_after program claims graph after id each joint One All [] (v ∷ vs) later here says same is good = let no : ⊥ = omega (arith, same) in absurd no
pairs_after program claims graph after id each joint One All (u ∷ us) [] later here says same is good = let no : ⊥ = omega (arith, same) in absurd no
pairs_after program claims graph after id each joint One All (u ∷ us) (v ∷ vs) later here says same is good =
    let fewer : length us ≡ length vs = omega (arith, same) in
    let built = build_pairs each joint (length graph) (u, v) (zip us vs) in
    let after_is = one_follows (written graph id built) after is in
    let written_good = subst (λ (g : Graph). Good program claims g later) after_is good in
    let may = written_may program claims graph id built later here written_good in
    record {
      new = instead built.top;
      changed = changed_by_writing graph id after built here after_is;
      say = subst (λ (xs : List ℕ). All (values_at later (u ∷ xs)) (values_at later (v ∷ vs)) (later id)) (zip_firsts us vs fewer)
          (subst (λ (ys : List ℕ). All (values_at later (u ∷ firsts (zip us vs))) (values_at later (v ∷ ys)) (later id)) (zip_seconds us vs fewer)
          (pairs_say program claims later written_good.of_program each joint One All says (length graph) u v (zip us vs) (later id) may.0 may.1));
    }
