-- What terms and rules use, by all that stands exposed in them.
use Rattle.std.proofs.Common.{◌≡◌, ◌||◌, ◌&&◌, not, ℕ, ◌⊎◌, inl, inr, Bool, true, false, cond, nat_eq, List, [], ◌∷◌, ◌++◌, None, Some, slice_get, refl, ap, sym, ◌∙◌, subst}
use Rattle.std.specs.List.{list_any}
use Rattle.cu_calculus.specs.Valid.{all_variables, holds, variables_of}
use Rattle.cu_kernel.specs.Captures.{alternatives_use, any_use, is_local, no_head, rule_uses, rules_use, uses}
use Rattle.cu_kernel.specs.LocalKernel.{LocalRule}
use Rattle.cu_kernel.specs.LocalTerm as local
use Rattle.cu_kernel.specs.LocalTerm.{LocalAlternatives, LocalTerm, LocalTerms}
use Rattle.cu_kernel.specs.declared.local.LocalHead.TheVariants as head
use Rattle.cu_kernel.specs.declared.local.LocalHead.{LocalHead}
use Rattle.cu_parts.proofs.Exposed.{Use, counted, exposed, exposed_in_all, exposed_in_alternatives, exposed_in_rule, exposed_in_rules, unbound}
use Rattle.cu_parts.proofs.Tests.{any_append, any_at, same_is, same_self, some_at}
use Rattle.cu_parts.specs.Inside.Capturing.{is_met, met_at}

module _ (counts : LocalHead → Bool) (v : ℕ) where
  abbrev p : Use → Bool
  p = counted counts

  itself : (b : Bool) → b ≡ list_any p (cond b (None ∷ []) [])
  itself true = refl
  itself false = refl

  cut : (bound u : Bool) (us : List Use) → u ≡ list_any p us → not bound && u ≡ list_any p (unbound bound us)
  cut true u us e = refl
  cut false u us e = e

  join : (a b : Bool) (us ws : List Use) → a ≡ list_any p us → b ≡ list_any p ws → a || b ≡ list_any p (us ++ ws)
  join a b us ws e d = ap (λ x. x || b) e ∙ ap (λ y. list_any p us || y) d ∙ sym (any_append p us ws)

  mutual
    pub uses_exposed : (t : LocalTerm) → uses counts v t ≡ list_any p (exposed v t)
    uses_exposed (local.Variable x) = itself (nat_eq x v)
    uses_exposed (local.Literal l) = refl
    uses_exposed (local.Whole h ts) = ap (λ b. counts h || b) (any_exposed ts)
    uses_exposed (local.Part h ts) = ap (λ b. counts h || b) (any_exposed ts)
    uses_exposed (local.Apply f a) = join (uses counts v f) (uses counts v a) (exposed v f) (exposed v a) (uses_exposed f) (uses_exposed a)
    uses_exposed (local.Let x a b) =
        join (uses counts v a) (not (nat_eq x v) && uses counts v b) (exposed v a) (unbound (nat_eq x v) (exposed v b)) (uses_exposed a)
        (cut (nat_eq x v) (uses counts v b) (exposed v b) (uses_exposed b))
    uses_exposed (local.Free x t) = cut (nat_eq x v) (uses counts v t) (exposed v t) (uses_exposed t)
    uses_exposed (local.Or a b) = join (uses counts v a) (uses counts v b) (exposed v a) (exposed v b) (uses_exposed a) (uses_exposed b)
    uses_exposed (local.Case mode a alternatives) =
        join (uses counts v a) (alternatives_use counts v alternatives) (exposed v a) (exposed_in_alternatives v alternatives) (uses_exposed a)
        (alternatives_exposed alternatives)

    any_exposed : (ts : LocalTerms) → any_use counts v ts ≡ list_any p (exposed_in_all v ts)
    any_exposed local.NoTerm = refl
    any_exposed (local.MoreTerms t ts) =
        join (uses counts v t) (any_use counts v ts) (exposed v t) (exposed_in_all v ts) (uses_exposed t) (any_exposed ts)

    alternatives_exposed : (rows : LocalAlternatives) → alternatives_use counts v rows ≡ list_any p (exposed_in_alternatives v rows)
    alternatives_exposed local.NoAlternative = refl
    alternatives_exposed (local.MoreAlternatives q t rows) =
        join (not (holds v (variables_of q)) && uses counts v t) (alternatives_use counts v rows) (unbound (holds v (variables_of q)) (exposed v t))
        (exposed_in_alternatives v rows) (cut (holds v (variables_of q)) (uses counts v t) (exposed v t) (uses_exposed t)) (alternatives_exposed rows)

  pub rule_exposed : (rule : LocalRule) → rule_uses counts v rule ≡ list_any p (exposed_in_rule v rule)
  rule_exposed rule = cut (holds v (all_variables rule.params)) (uses counts v rule.body) (exposed v rule.body) (uses_exposed rule.body)

  pub rules_exposed : (rules : List LocalRule) → rules_use counts v rules ≡ list_any p (exposed_in_rules v rules)
  rules_exposed [] = refl
  rules_exposed (rule ∷ rules) =
      join (rule_uses counts v rule) (rules_use counts v rules) (exposed_in_rule v rule) (exposed_in_rules v rules) (rule_exposed rule)
      (rules_exposed rules)

-- ---- more heads that count

counted_more : (some more : LocalHead → Bool) → ((h : LocalHead) → some h ≡ true → more h ≡ true) → (u : Use) → counted some u ≡ true
    → counted more u ≡ true
counted_more some more each None is = refl
counted_more some more each (Some h) is = each h is

any_more : (some more : LocalHead → Bool) → ((h : LocalHead) → some h ≡ true → more h ≡ true) → (us : List Use)
    → list_any (counted some) us ≡ true → list_any (counted more) us ≡ true
any_more some more each us is =
    let at = some_at (counted some) us is in any_at (counted more) us at.0 at.1 at.2 (counted_more some more each at.1 at.3)

pub uses_more : (some more : LocalHead → Bool) → ((h : LocalHead) → some h ≡ true → more h ≡ true) → (v : ℕ) (t : LocalTerm)
    → uses some v t ≡ true → uses more v t ≡ true
uses_more some more each v t is =
    uses_exposed more v t ∙ any_more some more each (exposed v t) (sym (uses_exposed some v t) ∙ is)

pub rules_use_more : (some more : LocalHead → Bool) → ((h : LocalHead) → some h ≡ true → more h ≡ true) → (v : ℕ) (rules : List LocalRule)
    → rules_use some v rules ≡ true → rules_use more v rules ≡ true
rules_use_more some more each v rules is =
    rules_exposed more v rules ∙ any_more some more each (exposed_in_rules v rules) (sym (rules_exposed some v rules) ∙ is)

pub none_counts : (more : LocalHead → Bool) (h : LocalHead) → no_head h ≡ true → more h ≡ true
none_counts more h is = let absent : ⊥ = cc in absurd absent

pub one_counts : (met : List Bool) (k : ℕ) → met_at met k ≡ true → (h : LocalHead) → is_local k h ≡ true → is_met met h ≡ true
one_counts met k at (head.Local j) is = subst (λ (i : ℕ). met_at met i ≡ true) (sym (same_is j k is)) at
one_counts met k at (head.Global h) is = let absent : ⊥ = cc in absurd absent

-- ---- by the variable itself, or by one local function

-- a local function that is met, by which a test passes
abbrev pub ByCall : List Bool → (ℕ → Bool) → Type 0
ByCall met passes = (k : ℕ) × (met_at met k ≡ true) × (passes k ≡ true)

split_use : (met : List Bool) (us : List Use) (i : ℕ) (u : Use) → slice_get us i ≡ Some u → counted (is_met met) u ≡ true
    → (list_any (counted no_head) us ≡ true) ⊎ ByCall met (λ k. list_any (counted (is_local k)) us)
split_use met us i None at is = inl (any_at (counted no_head) us i None at refl)
split_use met us i (Some (head.Local k)) at is = inr (k, is, any_at (counted (is_local k)) us i (Some (head.Local k)) at (same_self k))
split_use met us i (Some (head.Global h)) at is = let absent : ⊥ = cc in absurd absent

split_any : (met : List Bool) (us : List Use) → list_any (counted (is_met met)) us ≡ true
    → (list_any (counted no_head) us ≡ true) ⊎ ByCall met (λ k. list_any (counted (is_local k)) us)
split_any met us is = let at = some_at (counted (is_met met)) us is in split_use met us at.0 at.1 at.2 at.3

pub split_term : (met : List Bool) (v : ℕ) (t : LocalTerm) → uses (is_met met) v t ≡ true
    → (uses no_head v t ≡ true) ⊎ ByCall met (λ k. uses (is_local k) v t)
split_term met v t is = elim (split_any met (exposed v t) (sym (uses_exposed (is_met met) v t) ∙ is)) [
  | inl own ↦ inl (uses_exposed no_head v t ∙ own)
  | inr call ↦ inr (call.0, call.1, uses_exposed (is_local call.0) v t ∙ call.2)
]

pub split_rules : (met : List Bool) (v : ℕ) (rules : List LocalRule) → rules_use (is_met met) v rules ≡ true
    → (rules_use no_head v rules ≡ true) ⊎ ByCall met (λ k. rules_use (is_local k) v rules)
split_rules met v rules is = elim (split_any met (exposed_in_rules v rules) (sym (rules_exposed (is_met met) v rules) ∙ is)) [
  | inl own ↦ inl (rules_exposed no_head v rules ∙ own)
  | inr call ↦ inr (call.0, call.1, rules_exposed (is_local call.0) v rules ∙ call.2)
]
