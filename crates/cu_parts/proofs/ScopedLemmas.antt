-- The tests decide whether a top-level function is right by itself.
use Rattle.std.proofs.Common.{◌≡◌, ◌↔◌, ◌&&◌, not, ℕ, zero, suc, ◌+◌, inl, inr, Bool, true, false, Err, IfOk, IsTrue, Ok, Result, List, [], ◌∷◌, ◌++◌, Some, drop, flat_map, slice_get, take, ap, append_assoc, sym, ◌∙◌, subst, arith}
use Rattle.std.specs.List.{list_all}
use Rattle.std.specs.declared.alloc.AllocError.{AllocError}
use Rattle.cu_calculus.specs.Valid.{all_variables, holds, is_arity, is_linear}
use Rattle.cu_kernel.specs.Captures as captures
use Rattle.cu_kernel.specs.Captures.{Captures, IsFree, is_local, no_head, rule_uses, rules_use, uses}
use Rattle.cu_kernel.specs.LocalKernel.{LocalFunction, LocalRule, TopFunction}
use Rattle.cu_kernel.specs.LocalTerm.{LocalTerm}
use Rattle.cu_kernel.specs.LocalValid.{IsScoped, all_binders, all_rules, fits_arity, fits_local, local_binders, local_rules, outer_binders, rule_binders, rule_lets, rules_binders, rules_of}
use Rattle.cu_kernel.specs.declared.local.LocalHead.{LocalHead}
use Rattle.cu_parts.proofs.FreeLemmas.{captured_found, free_found}
use Rattle.cu_parts.proofs.LetLemmas.{rule_stands}
use Rattle.cu_parts.proofs.Tests.{and_both, and_first, and_second, any_at, apart, either, held_at, held_either, held_first, held_second, in_either, in_flat, linear_apart, linear_at, linear_first, linear_second, not_held, not_true, of_not, some_at}
use Rattle.cu_parts.proofs.UseLemmas.{none_counts, one_counts, split_term, uses_more}
use Rattle.cu_parts.specs.Inside.Capturing.{AreCapturing, is_met}
use Rattle.cu_parts.specs.Inside.FreeUses.{free_in_function}
use Rattle.cu_parts.specs.Inside.Scoping.{MayCapture, VariableFits, arities_fit, calls_fit}

-- ---- binders of one local function, and of the others

abbrev others : List LocalFunction → ℕ → List ℕ
others locals k = flat_map local_binders (take k locals) ++ flat_map local_binders (drop (k + 1) locals)

-- the others of a longer list
others_step : (v k : ℕ) (y : LocalFunction) (ls : List LocalFunction) → others (y ∷ ls) (suc k) ≡ local_binders y ++ others ls k
others_step v k y ls =
    let one : suc k + 1 ≡ suc (k + 1) = omega arith in
    ap (λ n. (local_binders y ++ flat_map local_binders (take k ls)) ++ flat_map local_binders (drop n (y ∷ ls))) one
    ∙ append_assoc (local_binders y) (flat_map local_binders (take k ls)) (flat_map local_binders (drop (k + 1) ls))

in_others : (v k : ℕ) (g : LocalFunction) (locals : List LocalFunction) → slice_get locals k ≡ Some g → holds v (flat_map local_binders locals) ≡ true
    → holds v (local_binders g) ≡ false → holds v (others locals k) ≡ true
in_others v k g [] e h free = let absent : ⊥ = cc in absurd absent
in_others v zero g (y ∷ ls) e h free =
    let same : y ≡ g = cc in elim (held_either v (local_binders y) (flat_map local_binders ls) h) [
      | inl here ↦ absurd (apart (holds v (local_binders g)) (subst (λ (x : LocalFunction). holds v (local_binders x) ≡ true) same here) free)
      | inr rest ↦ rest
    ]
in_others v (suc k) g (y ∷ ls) e h free =
    ap (holds v) (others_step v k y ls)
    ∙ elim (held_either v (local_binders y) (flat_map local_binders ls) h) [
      | inl here ↦ held_first v (local_binders y) (others ls k) here
      | inr rest ↦ held_second v (local_binders y) (others ls k) (in_others v k g ls e rest free)
    ]

from_others : (v k : ℕ) (g : LocalFunction) (locals : List LocalFunction) → slice_get locals k ≡ Some g → holds v (others locals k) ≡ true
    → holds v (flat_map local_binders locals) ≡ true
from_others v k g [] e h = let absent : ⊥ = cc in absurd absent
from_others v zero g (y ∷ ls) e h = held_second v (local_binders y) (flat_map local_binders ls) h
from_others v (suc k) g (y ∷ ls) e h = elim (held_either v (local_binders y) (others ls k) (sym (ap (holds v) (others_step v k y ls)) ∙ h)) [
  | inl here ↦ held_first v (local_binders y) (flat_map local_binders ls) here
  | inr rest ↦ held_second v (local_binders y) (flat_map local_binders ls) (from_others v k g ls e rest)
]

apart_at : (v k : ℕ) (g : LocalFunction) (locals : List LocalFunction) → slice_get locals k ≡ Some g → is_linear (flat_map local_binders locals) ≡ true
    → holds v (others locals k) ≡ true → holds v (local_binders g) ≡ true → ⊥
apart_at v k g [] e h p q = let absent : ⊥ = cc in absurd absent
apart_at v zero g (y ∷ ls) e h p q =
    let same : y ≡ g = cc in
    linear_apart v (local_binders y) (flat_map local_binders ls) h (subst (λ (x : LocalFunction). holds v (local_binders x) ≡ true) (sym same) q) p
apart_at v (suc k) g (y ∷ ls) e h p q = elim (held_either v (local_binders y) (others ls k) (sym (ap (holds v) (others_step v k y ls)) ∙ p)) [
  | inl here ↦ linear_apart v (local_binders y) (flat_map local_binders ls) h here (held_at local_binders v k g ls e q)
  | inr rest ↦ apart_at v k g ls e (linear_second (local_binders y) (flat_map local_binders ls) h) rest q
]

module _ (f : TopFunction) (linear : is_linear (all_binders f) ≡ true) where
  abbrev own_binders : List ℕ
  own_binders = rules_binders (rules_of f.body)

  abbrev inner_binders : List ℕ
  inner_binders = flat_map local_binders f.locals

  outer : (v k : ℕ) (g : LocalFunction) → slice_get f.locals k ≡ Some g → holds v (all_binders f) ≡ true → holds v (local_binders g) ≡ false
      → holds v (outer_binders f k) ≡ true
  outer v k g e h free = elim (held_either v own_binders inner_binders h) [
    | inl here ↦ held_first v own_binders (others f.locals k) here
    | inr rest ↦ held_second v own_binders (others f.locals k) (in_others v k g f.locals e rest free)
  ]

  outer_all : (v k : ℕ) (g : LocalFunction) → slice_get f.locals k ≡ Some g → holds v (outer_binders f k) ≡ true → holds v (all_binders f) ≡ true
  outer_all v k g e h = elim (held_either v own_binders (others f.locals k) h) [
    | inl here ↦ held_first v own_binders inner_binders here
    | inr rest ↦ held_second v own_binders inner_binders (from_others v k g f.locals e rest)
  ]

  outer_apart : (v k : ℕ) (g : LocalFunction) → slice_get f.locals k ≡ Some g → holds v (outer_binders f k) ≡ true → holds v (local_binders g) ≡ true → ⊥
  outer_apart v k g e h q = elim (held_either v own_binders (others f.locals k) h) [
    | inl here ↦ linear_apart v own_binders inner_binders linear here (held_at local_binders v k g f.locals e q)
    | inr rest ↦ apart_at v k g f.locals e (linear_second own_binders inner_binders linear) rest q
  ]

captured_at : (locals : List LocalFunction) (v k : ℕ) → Captures locals k v → (g : LocalFunction) × (slice_get locals k ≡ Some g)
captured_at locals v _ (captures.own k _ g e h) = (g, e)
captured_at locals v _ (captures.through k h _ g e u c) = (g, e)

-- ---- one variable

module _ (f : TopFunction) (v : ℕ) (met : List Bool) (linear : is_linear (all_binders f) ≡ true) (capturing : AreCapturing f.locals v met) where
  used_by : (t : LocalTerm) → IsFree f.locals v t → uses (is_met met) v t ≡ true
  used_by t (captures.own h) = uses_more no_head (is_met met) (none_counts (is_met met)) v t h
  used_by t (captures.through h u c) = uses_more (is_local h) (is_met met) (one_counts met h ((capturing h).1 c)) v t u

  free_by : (t : LocalTerm) → uses (is_met met) v t ≡ true → IsFree f.locals v t
  free_by t u = elim (split_term met v t u) [
    | inl own ↦ captures.own own
    | inr call ↦ captures.through call.0 call.2 ((capturing call.0).0 call.1)
  ]

  pub variable_right : rules_use (is_met met) v (rules_of f.body) ≡ false → MayCapture f.locals v (holds v (all_binders f)) met → VariableFits f v
  variable_right none may = record {
    closed = λ k rule e free. elim (either (holds v (all_variables rule.params))) [
      | inl bound ↦ bound
      | inr unbound ↦
          absurd (apart (rules_use (is_met met) v (rules_of f.body))
          (any_at (rule_uses (is_met met) v) (rules_of f.body) k rule e
          (and_both (not (holds v (all_variables rule.params))) (uses (is_met met) v rule.body) (ap not unbound) (used_by rule.body free))) none)
    ];
    captured = λ k c.
        let at = captured_at f.locals v k c in
        let bound = holds v (all_binders f) in
        let ok = may k at.0 at.1 ((capturing k).1 c) in
        outer f linear v k at.0 at.1 (and_first bound (not (holds v (local_binders at.0))) ok)
        (of_not (holds v (local_binders at.0)) (and_second bound (not (holds v (local_binders at.0))) ok));
  }

  pub rules_wrong : rules_use (is_met met) v (rules_of f.body) ≡ true → VariableFits f v → ⊥
  rules_wrong used fits =
      let at = some_at (rule_uses (is_met met) v) (rules_of f.body) used in
      let bound = holds v (all_variables at.1.params) in
      let u = uses (is_met met) v at.1.body in
      not_true bound (and_first (not bound) u at.3) (fits.closed at.0 at.1 at.2 (free_by at.1.body (and_second (not bound) u at.3)))

  pub variable_may : VariableFits f v → MayCapture f.locals v (holds v (all_binders f)) met
  variable_may fits k g e is =
      let there = fits.captured k ((capturing k).0 is) in
      and_both (holds v (all_binders f)) (not (holds v (local_binders g))) (outer_all f linear v k g e there)
      (not_held (holds v (local_binders g)) (outer_apart f linear v k g e there))

pub variable_refused : (f : TopFunction) (v : ℕ) (met : List Bool) → is_linear (all_binders f) ≡ true → AreCapturing f.locals v met
    → rules_use (is_met met) v (rules_of f.body) ≡ true → IsTrue false ↔ VariableFits f v
variable_refused f v met linear capturing used =
    (λ h. (let absent : ⊥ = cc in absurd absent), λ fits. absurd (rules_wrong f v met linear capturing used fits))

-- the last test decides
pub variable_decided : (f : TopFunction) (v : ℕ) (met : List Bool) (result : Result Bool AllocError) → is_linear (all_binders f) ≡ true
    → AreCapturing f.locals v met → rules_use (is_met met) v (rules_of f.body) ≡ false
    → IfOk result (λ fit. IsTrue fit ↔ MayCapture f.locals v (holds v (all_binders f)) met)
    → IfOk result (λ fit. IsTrue fit ↔ VariableFits f v)
variable_decided f v met (Err e) linear capturing none fit = tt
variable_decided f v met (Ok b) linear capturing none fit =
    (λ h. variable_right f v met linear capturing none (fit.0 h), λ h. fit.1 (variable_may f v met linear capturing h))

-- a variable that is bound wherever it is used fits
pub unused_fits : (f : TopFunction) (v : ℕ) → holds v (free_in_function f) ≡ false → VariableFits f v
unused_fits f v none = record {
  closed = λ k rule e free. elim (either (holds v (all_variables rule.params))) [
    | inl bound ↦ bound
    | inr unbound ↦ absurd (apart (holds v (free_in_function f)) (free_found f v k rule e free unbound) none)
  ];
  captured = λ k c. absurd (apart (holds v (free_in_function f)) (captured_found f v k c) none);
}

-- ---- the whole function

module _ (f : TopFunction) (linear : is_linear (all_binders f) ≡ true) (fit : (v : ℕ) → VariableFits f v) where
  own_let : (x : ℕ) (a : LocalTerm) (m j : ℕ) (rule : LocalRule) → slice_get (rules_of f.body) m ≡ Some rule → slice_get (rule_lets rule) j ≡ Some (x, a)
      → IsFree f.locals x a → ⊥
  own_let x a m j rule at e free =
      let own_linear = linear_first (rules_binders (rules_of f.body)) (flat_map local_binders f.locals) linear in
      by (linear_at rule_binders m rule (rules_of f.body) at own_linear) free
    where
      by : is_linear (rule_binders rule) ≡ true → IsFree f.locals x a → ⊥
      by one (captures.own h) =
          let stands = rule_stands no_head x a h rule j one e in
          not_true (holds x (all_variables rule.params)) stands.1 ((fit x).closed m rule at (captures.own stands.2))
      by one (captures.through h u c) =
          let stands = rule_stands (is_local h) x a u rule j one e in
          not_true (holds x (all_variables rule.params)) stands.1 ((fit x).closed m rule at (captures.through h stands.2 c))

  local_let : (x : ℕ) (a : LocalTerm) (i m j : ℕ) (g : LocalFunction) (rule : LocalRule) → slice_get f.locals i ≡ Some g → slice_get g.rules m ≡ Some rule
      → slice_get (rule_lets rule) j ≡ Some (x, a) → IsFree f.locals x a → ⊥
  local_let x a i m j g rule inside at e free =
      let inner = linear_second (rules_binders (rules_of f.body)) (flat_map local_binders f.locals) linear in
      by (linear_at rule_binders m rule g.rules at (linear_at local_binders i g f.locals inside inner)) free
    where
      captured : (counts : LocalHead → Bool)
          → (holds x (rule_binders rule) ≡ true) × (not (holds x (all_variables rule.params)) ≡ true) × (uses counts x rule.body ≡ true)
          → rules_use counts x g.rules ≡ true
      captured counts stands =
          any_at (rule_uses counts x) g.rules m rule at (and_both (not (holds x (all_variables rule.params))) (uses counts x rule.body) stands.1 stands.2)

      never : holds x (rule_binders rule) ≡ true → Captures f.locals i x → ⊥
      never bound c = outer_apart f linear x i g inside ((fit x).captured i c) (held_at rule_binders x m rule g.rules at bound)

      by : is_linear (rule_binders rule) ≡ true → IsFree f.locals x a → ⊥
      by one (captures.own h) =
          let stands = rule_stands no_head x a h rule j one e in
          never stands.0 (captures.own i x g inside (captured no_head stands))
      by one (captures.through h u c) =
          let stands = rule_stands (is_local h) x a u rule j one e in
          never stands.0 (captures.through i h x g inside (captured (is_local h) stands) c)

  no_let : (k x : ℕ) (a : LocalTerm) → slice_get (flat_map rule_lets (all_rules f)) k ≡ Some (x, a) → IsFree f.locals x a → ⊥
  no_let k x a e free =
      let flat = in_flat rule_lets (all_rules f) (x, a) k e in
      elim (in_either (rules_of f.body) (flat_map local_rules f.locals) flat.1 flat.0 flat.3) [
        | inl own ↦ own_let x a own.0 flat.2 flat.1 own.1 flat.4 free
        | inr inner ↦
            let at = in_flat local_rules f.locals flat.1 inner.0 inner.1 in
            local_let x a at.0 at.2 flat.2 at.1 flat.1 at.3 at.4 flat.4 free
      ]

  pub is_scoped : arities_fit f ≡ true → calls_fit f ≡ true → IsScoped f
  is_scoped arities calls =
      let head = is_arity f.arity && fits_arity f.arity f.body in
      let locals = list_all fits_local f.locals in record {
        arity = and_first head locals arities;
        locals = and_second head locals arities;
        calls = calls;
        once = linear;
        closed = λ k v rule e free. (fit v).closed k rule e free;
        captured = λ k v c. (fit v).captured k c;
        lets = no_let;
      }

pub scoped_arities : (f : TopFunction) → IsScoped f → arities_fit f ≡ true
scoped_arities f scoped =
    and_both (is_arity f.arity && fits_arity f.arity f.body) (list_all fits_local f.locals) scoped.arity scoped.locals

pub scoped_fits : (f : TopFunction) → IsScoped f → (v : ℕ) → VariableFits f v
scoped_fits f scoped v = record { closed = λ k rule e free. scoped.closed k v rule e free; captured = λ k c. scoped.captured k v c }

-- the last test decides
pub scoped_decided : (f : TopFunction) (result : Result Bool AllocError) → arities_fit f ≡ true → calls_fit f ≡ true → is_linear (all_binders f) ≡ true
    → IfOk result (λ fit. IsTrue fit ↔ ((v : ℕ) → VariableFits f v)) → IfOk result (λ fit. IsTrue fit ↔ IsScoped f)
scoped_decided f (Err e) arities calls linear fit = tt
scoped_decided f (Ok b) arities calls linear fit =
    (λ h. is_scoped f linear (fit.0 h) arities calls, λ scoped. fit.1 (scoped_fits f scoped))
