-- A variable that its own definition uses is used by the whole term.
use Rattle.std.proofs.Common.{◌≡◌, ◌||◌, ◌&&◌, not, ℕ, zero, suc, inl, inr, Bool, true, nat_eq, List, ◌∷◌, ◌++◌, Some, slice_get, ap, ◌∙◌}
use Rattle.cu_calculus.specs.Valid.{all_variables, holds, is_linear, variables_of}
use Rattle.cu_kernel.specs.Captures.{alternatives_use, any_use, uses}
use Rattle.cu_kernel.specs.LocalKernel.{LocalRule}
use Rattle.cu_kernel.specs.LocalTerm as local
use Rattle.cu_kernel.specs.LocalTerm.{LocalAlternatives, LocalTerm, LocalTerms}
use Rattle.cu_kernel.specs.LocalValid.{alternative_binders, binders, binders_all, lets, lets_of_all, lets_of_alternatives, rule_binders, rule_lets}
use Rattle.cu_kernel.specs.declared.local.LocalHead.{LocalHead}
use Rattle.cu_parts.proofs.Tests.{and_both, and_first, and_second, held_first, held_second, in_either, linear_apart, linear_first, linear_second, not_first, not_held, or_first, or_second, same_self}

-- a variable is bound, and used
pub record Stands (x : ℕ) (xs : List ℕ) (u : Bool) : Type 0 where
  pub bound : holds x xs ≡ true
  pub used : u ≡ true

module _ (counts : LocalHead → Bool) (x : ℕ) (a : LocalTerm) (itself : uses counts x a ≡ true) where
  left : (xs ys : List ℕ) (u w : Bool) → Stands x xs u → Stands x (xs ++ ys) (u || w)
  left xs ys u w s = record { bound = held_first x xs ys s.bound; used = or_first u w s.used }

  right : (xs ys : List ℕ) (u w : Bool) → Stands x ys w → Stands x (xs ++ ys) (u || w)
  right xs ys u w s = record { bound = held_second x xs ys s.bound; used = or_second u w s.used }

  later : (h : Bool) (xs : List ℕ) (u : Bool) → Stands x xs u → Stands x xs (h || u)
  later h xs u s = record { bound = s.bound; used = or_second h u s.used }

  -- after a binder of another variable
  inside : (y : ℕ) (ys xs : List ℕ) (u : Bool) → not (holds y ys) ≡ true → holds x ys ≡ true → Stands x xs u → Stands x xs (not (nat_eq y x) && u)
  inside y ys xs u other at s = record {
    bound = s.bound;
    used = and_both (not (nat_eq y x)) u (ap not (not_first x y ys other at)) s.used;
  }

  after : (y : ℕ) (xs : List ℕ) (u : Bool) → Stands x xs u → Stands x (y ∷ xs) u
  after y xs u s = record { bound = or_second (nat_eq x y) (holds x xs) s.bound; used = s.used }

  mutual
    let_stands : (t : LocalTerm) (k : ℕ) → is_linear (binders t) ≡ true → slice_get (lets t) k ≡ Some (x, a) → Stands x (binders t) (uses counts x t)
    let_stands (local.Variable y) k linear e = let absent : ⊥ = cc in absurd absent
    let_stands (local.Literal l) k linear e = let absent : ⊥ = cc in absurd absent
    let_stands (local.Whole h ts) k linear e = later (counts h) (binders_all ts) (any_use counts x ts) (any_stands ts k linear e)
    let_stands (local.Part h ts) k linear e = later (counts h) (binders_all ts) (any_use counts x ts) (any_stands ts k linear e)
    let_stands (local.Apply f b) k linear e = elim (in_either (lets f) (lets b) (x, a) k e) [
      | inl i ↦ left (binders f) (binders b) (uses counts x f) (uses counts x b) (let_stands f i.0 (linear_first (binders f) (binders b) linear) i.1)
      | inr i ↦ right (binders f) (binders b) (uses counts x f) (uses counts x b) (let_stands b i.0 (linear_second (binders f) (binders b) linear) i.1)
    ]
    let_stands (local.Let y s b) zero linear e =
        let same : (y, s) ≡ (x, a) = cc in
        let first : y ≡ x = ap (λ (z : ℕ × LocalTerm). z.0) same in
        let second : s ≡ a = ap (λ (z : ℕ × LocalTerm). z.1) same in
        let rest = not (nat_eq y x) && uses counts x b in record {
          bound = or_first (nat_eq x y) (holds x (binders s ++ binders b)) (ap (λ (z : ℕ). nat_eq x z) first ∙ same_self x);
          used = or_first (uses counts x s) rest (ap (uses counts x) second ∙ itself);
        }
    let_stands (local.Let y s b) (suc k) linear e =
        let inner = binders s ++ binders b in
        let other = and_first (not (holds y inner)) (is_linear inner) linear in
        let rest = and_second (not (holds y inner)) (is_linear inner) linear in
        let w = not (nat_eq y x) && uses counts x b in
        elim (in_either (lets s) (lets b) (x, a) k e) [
          | inl i ↦
              after y inner (uses counts x s || w) (left (binders s) (binders b) (uses counts x s) w (let_stands s i.0 (linear_first (binders s) (binders b) rest) i.1))
          | inr i ↦
              let stands = let_stands b i.0 (linear_second (binders s) (binders b) rest) i.1 in
              after y inner (uses counts x s || w)
              (right (binders s) (binders b) (uses counts x s) w
              (inside y inner (binders b) (uses counts x b) other (held_second x (binders s) (binders b) stands.bound) stands))
        ]
    let_stands (local.Free y t) k linear e =
        let other = and_first (not (holds y (binders t))) (is_linear (binders t)) linear in
        let stands = let_stands t k (and_second (not (holds y (binders t))) (is_linear (binders t)) linear) e in
        after y (binders t) (not (nat_eq y x) && uses counts x t) (inside y (binders t) (binders t) (uses counts x t) other stands.bound stands)
    let_stands (local.Or f b) k linear e = elim (in_either (lets f) (lets b) (x, a) k e) [
      | inl i ↦ left (binders f) (binders b) (uses counts x f) (uses counts x b) (let_stands f i.0 (linear_first (binders f) (binders b) linear) i.1)
      | inr i ↦ right (binders f) (binders b) (uses counts x f) (uses counts x b) (let_stands b i.0 (linear_second (binders f) (binders b) linear) i.1)
    ]
    let_stands (local.Case mode s rows) k linear e = elim (in_either (lets s) (lets_of_alternatives rows) (x, a) k e) [
      | inl i ↦
          left (binders s) (alternative_binders rows) (uses counts x s) (alternatives_use counts x rows)
          (let_stands s i.0 (linear_first (binders s) (alternative_binders rows) linear) i.1)
      | inr i ↦
          right (binders s) (alternative_binders rows) (uses counts x s) (alternatives_use counts x rows)
          (row_stands rows i.0 (linear_second (binders s) (alternative_binders rows) linear) i.1)
    ]

    any_stands : (ts : LocalTerms) (k : ℕ) → is_linear (binders_all ts) ≡ true → slice_get (lets_of_all ts) k ≡ Some (x, a)
        → Stands x (binders_all ts) (any_use counts x ts)
    any_stands local.NoTerm k linear e = let absent : ⊥ = cc in absurd absent
    any_stands (local.MoreTerms t ts) k linear e = elim (in_either (lets t) (lets_of_all ts) (x, a) k e) [
      | inl i ↦ left (binders t) (binders_all ts) (uses counts x t) (any_use counts x ts) (let_stands t i.0 (linear_first (binders t) (binders_all ts) linear) i.1)
      | inr i ↦ right (binders t) (binders_all ts) (uses counts x t) (any_use counts x ts) (any_stands ts i.0 (linear_second (binders t) (binders_all ts) linear) i.1)
    ]

    row_stands : (rows : LocalAlternatives) (k : ℕ) → is_linear (alternative_binders rows) ≡ true → slice_get (lets_of_alternatives rows) k ≡ Some (x, a)
        → Stands x (alternative_binders rows) (alternatives_use counts x rows)
    row_stands local.NoAlternative k linear e = let absent : ⊥ = cc in absurd absent
    row_stands (local.MoreAlternatives p t rows) k linear e =
        let xs = variables_of p in let ys = binders t in let zs = alternative_binders rows in
        let inner = linear_second xs (ys ++ zs) linear in
        let u = not (holds x xs) && uses counts x t in
        elim (in_either (lets t) (lets_of_alternatives rows) (x, a) k e) [
          | inl i ↦
              let stands = let_stands t i.0 (linear_first ys zs inner) i.1 in
              let at = held_first x ys zs stands.bound in record {
                bound = held_second x xs (ys ++ zs) at;
                used = or_first u (alternatives_use counts x rows)
                    (and_both (not (holds x xs)) (uses counts x t) (not_held (holds x xs) (λ there. linear_apart x xs (ys ++ zs) linear there at)) stands.used);
              }
          | inr i ↦
              let stands = row_stands rows i.0 (linear_second ys zs inner) i.1 in record {
                bound = held_second x xs (ys ++ zs) (held_second x ys zs stands.bound);
                used = or_second u (alternatives_use counts x rows) stands.used;
              }
        ]

  pub rule_stands : (rule : LocalRule) (k : ℕ) → is_linear (rule_binders rule) ≡ true → slice_get (rule_lets rule) k ≡ Some (x, a)
      → (holds x (rule_binders rule) ≡ true) × (not (holds x (all_variables rule.params)) ≡ true) × (uses counts x rule.body ≡ true)
  rule_stands rule k linear e =
      let xs = all_variables rule.params in let ys = binders rule.body in
      let stands = let_stands rule.body k (linear_second xs ys linear) e in (
        held_second x xs ys stands.bound,
        not_held (holds x xs) (λ there. linear_apart x xs ys linear there stands.bound),
        stands.used,
      )
