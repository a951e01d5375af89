-- Forests of parents: a write, and a number that is put under its parent's parent.
use Rattle.std.proofs.Common.{◌≡◌, ◌≢◌, ℕ, ◌-◌, ◌<◌, Bool, true, List, length, get_or, set, cond, nat_eq, inl, inr, refl, sym, ap, ◌∙◌, subst, arith, get_or-set_same, get_or-set_other}
use Rattle.std.proofs.Math.ListN.{length-set}
use Rattle.std.proofs.lemmas.Bool.{cases_eq, eq-eqb, eqb-true, ne_eqb}
use Rattle.std.proofs.lemmas.List.{get_or_read}
use Rattle.cu_types.specs.Inside.Classes.{IsForest, Represents, is_root, joined}

-- what stands at a place after a write
pub at_set : (xs : List ℕ) (i v k : ℕ) (P : ℕ → Type 0) → i < length xs → (k ≡ i → P v) → (k ≢ i → P (get_or xs k 0))
    → P (get_or (set xs i v) k 0)
at_set xs i v k P within here there = elim (cases_eq k i) [
  | inl e ↦ subst (λ (j : ℕ). P (get_or (set xs i v) j 0)) (sym e) (subst P (sym (get_or-set_same xs i v 0 within)) (here e))
  | inr n ↦ subst P (sym (get_or-set_other xs i k v 0 n)) (there n)
]

-- a number that is no root, and its parent's parent
pub record IsHalving (parents ranks : List ℕ) (at beyond : ℕ) : Type 0 where
  pub forest : IsForest parents ranks
  pub within : at < length parents
  pub moves : get_or parents at 0 ≢ at
  pub is : beyond ≡ get_or parents (get_or parents at 0) 0

pub halving_rank : (parents ranks : List ℕ) (at beyond : ℕ) → IsHalving parents ranks at beyond
    → get_or ranks at 0 < get_or ranks beyond 0
halving_rank parents ranks at beyond h =
    let p : ℕ = get_or parents at 0 in
    let first : get_or ranks at 0 < get_or ranks (get_or parents at 0) 0 = h.forest.rises at h.within h.moves in
    elim (cases_eq (get_or parents (get_or parents at 0) 0) (get_or parents at 0)) [
      | inl same ↦ subst (λ (x : ℕ). get_or ranks at 0 < get_or ranks x 0) (sym (h.is ∙ same)) first
      | inr differs ↦
          let second : get_or ranks (get_or parents at 0) 0 < get_or ranks (get_or parents (get_or parents at 0) 0) 0 =
          h.forest.rises (get_or parents at 0) (h.forest.within at h.within) differs in
          subst (λ (x : ℕ). get_or ranks at 0 < get_or ranks x 0) (sym h.is) (omega arith)
    ]

pub halving_moves : (parents ranks : List ℕ) (at beyond : ℕ) → IsHalving parents ranks at beyond → beyond ≢ at
halving_moves parents ranks at beyond h e =
    let rises : get_or ranks at 0 < get_or ranks beyond 0 = halving_rank parents ranks at beyond h in
    let same : get_or ranks beyond 0 ≡ get_or ranks at 0 = ap (λ (x : ℕ). get_or ranks x 0) e in
    omega arith

pub halving_within : (parents ranks : List ℕ) (at beyond : ℕ) → IsHalving parents ranks at beyond → beyond < length parents
halving_within parents ranks at beyond h =
    subst (λ (x : ℕ). x < length parents) (sym h.is) (h.forest.within (get_or parents at 0) (h.forest.within at h.within))

pub halved_forest : (parents ranks : List ℕ) (at beyond : ℕ) → IsHalving parents ranks at beyond
    → IsForest (set parents at beyond) ranks
halved_forest parents ranks at beyond h =
    let sized : length (set parents at beyond) ≡ length parents = length-set parents at beyond in
    record {
      ranked = h.forest.ranked ∙ sym sized;
      low = h.forest.low;
      within = λ k lt.
          let inside : k < length parents = omega arith in
          at_set parents at beyond k (λ x. x < length (set parents at beyond)) h.within
          (λ e. let it : beyond < length parents = halving_within parents ranks at beyond h in omega arith)
          (λ n. let it : get_or parents k 0 < length parents = h.forest.within k inside in omega arith);
      rises = λ k lt.
          let inside : k < length parents = omega arith in
          at_set parents at beyond k (λ x. x ≢ k → get_or ranks k 0 < get_or ranks x 0) h.within
          (λ e d. subst (λ (x : ℕ). get_or ranks x 0 < get_or ranks beyond 0) (sym e) (halving_rank parents ranks at beyond h))
          (λ n d. h.forest.rises k inside d);
    }

pub halved_roots : (parents ranks : List ℕ) (at beyond : ℕ) → IsHalving parents ranks at beyond
    → (k : ℕ) → is_root (set parents at beyond) k ≡ is_root parents k
halved_roots parents ranks at beyond h k =
    at_set parents at beyond k (λ x. nat_eq x k ≡ nat_eq (get_or parents k 0) k) h.within
    (λ e. subst (λ (j : ℕ). nat_eq beyond j ≡ nat_eq (get_or parents j 0) j) (sym e)
    (ne_eqb beyond at (halving_moves parents ranks at beyond h) ∙ sym (ne_eqb (get_or parents at 0) at h.moves)))
    (λ n. refl)

pub halving_class : (parents ranks : List ℕ) (at beyond : ℕ) (class : ℕ → ℕ) → IsHalving parents ranks at beyond
    → Represents parents class → class beyond ≡ class at
halving_class parents ranks at beyond class h r =
    ap class h.is ∙ r.step (get_or parents at 0) (h.forest.within at h.within) ∙ r.step at h.within

pub halved_represents : (parents ranks : List ℕ) (at beyond : ℕ) (class : ℕ → ℕ) → IsHalving parents ranks at beyond
    → Represents parents class → Represents (set parents at beyond) class
halved_represents parents ranks at beyond class h r =
    let sized : length (set parents at beyond) ≡ length parents = length-set parents at beyond in
    record {
      step = λ k lt.
          let inside : k < length parents = omega arith in
          at_set parents at beyond k (λ x. class x ≡ class k) h.within
          (λ e. halving_class parents ranks at beyond class h r ∙ ap class (sym e))
          (λ n. r.step k inside);
      root = λ k lt.
          let inside : k < length parents = omega arith in
          at_set parents at beyond k (λ x. x ≡ k → class k ≡ k) h.within
          (λ e same. absurd (halving_moves parents ranks at beyond h (same ∙ e)))
          (λ n same. r.root k inside same);
      within = λ k lt.
          let inside : k < length parents = omega arith in
          let it : class k < length parents = r.within k inside in omega arith;
      fixed = λ k lt.
          let inside : k < length parents = omega arith in
          at_set parents at beyond (class k) (λ x. x ≡ class k) h.within
          (λ e. absurd (h.moves (ap (λ (x : ℕ). get_or parents x 0) (sym e) ∙ r.fixed k inside ∙ e)))
          (λ n. r.fixed k inside);
    }

pub halving_read : (parents ranks : List ℕ) (at here parent beyond : ℕ) → IsForest parents ranks → at < length parents
    → here ≡ get_or parents at here → (here ≡ at → ⊥) → parent ≡ get_or parents at parent
    → beyond ≡ get_or parents parent beyond → IsHalving parents ranks at beyond
halving_read parents ranks at here parent beyond forest within reads moves above further =
    let is_here : here ≡ get_or parents at 0 = get_or_read parents at here within reads 0 in
    let is_parent : parent ≡ get_or parents at 0 = get_or_read parents at parent within above 0 in
    let inside : parent < length parents = subst (λ (x : ℕ). x < length parents) (sym is_parent) (forest.within at within) in
    let is_beyond : beyond ≡ get_or parents parent 0 = get_or_read parents parent beyond inside further 0 in
    record {
      forest = forest;
      within = within;
      moves = λ e. moves (is_here ∙ e);
      is = is_beyond ∙ ap (λ (x : ℕ). get_or parents x 0) is_parent;
    }

pub halving_nearer : (parents ranks : List ℕ) (at beyond : ℕ) → IsHalving parents ranks at beyond
    → 256 - get_or ranks beyond 0 < 256 - get_or ranks at 0
halving_nearer parents ranks at beyond h =
    let rises : get_or ranks at 0 < get_or ranks beyond 0 = halving_rank parents ranks at beyond h in
    let within : beyond < length parents = halving_within parents ranks at beyond h in
    let ranked : length ranks ≡ length parents = h.forest.ranked in
    let low : get_or ranks beyond 0 < 256 = h.forest.low beyond (omega arith) in
    omega arith

pub joined_there : (child root k : ℕ) (class : ℕ → ℕ) → class k ≡ child → joined child root class k ≡ root
joined_there child root k class e = ap (λ (b : Bool). cond b root (class k)) (eq-eqb (class k) child e)

joined_other : (child root k : ℕ) (class : ℕ → ℕ) → class k ≢ child → joined child root class k ≡ class k
joined_other child root k class n = ap (λ (b : Bool). cond b root (class k)) (ne_eqb (class k) child n)

-- where a class was joined to another
pub at_joined : (child root k : ℕ) (class : ℕ → ℕ) (P : ℕ → Type 0) → (class k ≡ child → P root) → (class k ≢ child → P (class k))
    → P (joined child root class k)
at_joined child root k class P there other = elim (cases_eq (class k) child) [
  | inl e ↦ subst P (sym (joined_there child root k class e)) (there e)
  | inr n ↦ subst P (sym (joined_other child root k class n)) (other n)
]

-- two representatives
pub record AreRoots (parents : List ℕ) (child root : ℕ) : Type 0 where
  pub child_within : child < length parents
  pub root_within : root < length parents
  pub apart : child ≢ root
  pub child_root : is_root parents child ≡ true
  pub root_root : is_root parents root ≡ true

root_class : (parents : List ℕ) (class : ℕ → ℕ) (k : ℕ) → Represents parents class → k < length parents
    → is_root parents k ≡ true → class k ≡ k
root_class parents class k r within is = r.root k within (eqb-true (get_or parents k 0) k is)

pub child_class : (parents : List ℕ) (child root : ℕ) (class : ℕ → ℕ) → AreRoots parents child root → Represents parents class
    → class child ≡ child
child_class parents child root class are r = root_class parents class child r are.child_within are.child_root

pub root_own_class : (parents : List ℕ) (child root : ℕ) (class : ℕ → ℕ) → AreRoots parents child root → Represents parents class
    → class root ≡ root
root_own_class parents child root class are r = root_class parents class root r are.root_within are.root_root

pub joined_represents : (parents : List ℕ) (child root : ℕ) (class : ℕ → ℕ) → AreRoots parents child root
    → Represents parents class → Represents (set parents child root) (joined child root class)
joined_represents parents child root class are r =
    let sized : length (set parents child root) ≡ length parents = length-set parents child root in
    let own : class root ≡ root = root_own_class parents child root class are r in
    let child_own : class child ≡ child = child_class parents child root class are r in
    record {
      step = λ k lt.
          let inside : k < length parents = omega arith in
          at_set parents child root k (λ x. joined child root class x ≡ joined child root class k) are.child_within
          (λ e. joined_other child root root class (λ same. are.apart (sym (sym own ∙ same)))
          ∙ own ∙ sym (joined_there child root k class (ap class e ∙ child_own)))
          (λ n. ap (λ (c : ℕ). cond (nat_eq c child) root c) (r.step k inside));
      root = λ k lt.
          let inside : k < length parents = omega arith in
          at_set parents child root k (λ x. x ≡ k → joined child root class k ≡ k) are.child_within
          (λ e same. absurd (are.apart (sym (same ∙ e))))
          (λ n same. joined_other child root k class (λ e. n (sym (r.root k inside same) ∙ e)) ∙ r.root k inside same);
      within = λ k lt.
          let inside : k < length parents = omega arith in
          at_joined child root k class (λ x. x < length (set parents child root))
          (λ e. let it : root < length parents = are.root_within in omega arith)
          (λ n. let it : class k < length parents = r.within k inside in omega arith);
      fixed = λ k lt.
          let inside : k < length parents = omega arith in
          at_joined child root k class (λ x. get_or (set parents child root) x 0 ≡ x)
          (λ e. get_or-set_other parents child root root 0 (λ same. are.apart (sym same))
          ∙ eqb-true (get_or parents root 0) root are.root_root)
          (λ n. get_or-set_other parents child (class k) root 0 n ∙ r.fixed k inside);
    }
