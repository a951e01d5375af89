-- What is used and not bound is found.
use Rattle.std.proofs.Common.{◌≡◌, ◌||◌, ◌&&◌, not, ℕ, inl, inr, Bool, true, false, nat_eq, List, [], ◌∷◌, ◌++◌, Some, flat_map, slice_get, ap, sym, ◌∙◌, subst}
use Rattle.cu_calculus.specs.Valid.{all_variables, also, also_all, holds, variables_of}
use Rattle.cu_kernel.specs.Captures as captures
use Rattle.cu_kernel.specs.Captures.{Captures, IsFree, alternatives_use, any_use, no_head, rule_uses, rules_use, uses}
use Rattle.cu_kernel.specs.LocalKernel.{LocalRule, TopFunction}
use Rattle.cu_kernel.specs.LocalTerm as local
use Rattle.cu_kernel.specs.LocalTerm.{LocalAlternatives, LocalTerm, LocalTerms}
use Rattle.cu_kernel.specs.LocalValid.{rules_of}
use Rattle.cu_kernel.specs.Inside.Scope.{held_by}
use Rattle.cu_parts.proofs.Tests.{and_first, and_second, held_at, held_first, held_second, of_not, or_cases, or_first, same_is, same_self}
use Rattle.cu_parts.specs.Inside.FreeUses.{free_in_all, free_in_alternatives, free_in_function, free_in_local, free_in_rule, free_in_rules, free_uses, unless}

module _ (v : ℕ) where
  found : (bound : ℕ → Bool) → bound v ≡ false → (x : ℕ) → x ≡ v → holds v (unless (bound x) x) ≡ true
  found bound free x same =
      subst (λ (n : ℕ). holds v (unless (bound n) n) ≡ true) (sym same)
      (ap (λ b. holds v (unless b v)) free ∙ or_first (nat_eq v v) false (same_self v))

  first : (xs ys : List ℕ) → holds v xs ≡ true → holds v (xs ++ ys) ≡ true
  first = held_first v

  second : (xs ys : List ℕ) → holds v ys ≡ true → holds v (xs ++ ys) ≡ true
  second = held_second v

  also_free : (bound : ℕ → Bool) (x : ℕ) → bound v ≡ false → not (nat_eq x v) ≡ true → also x bound v ≡ false
  also_free bound x free other = ap (λ b. b || bound v) (of_not (nat_eq x v) other) ∙ free

  all_free : (bound : ℕ → Bool) (xs : List ℕ) → bound v ≡ false → not (holds v xs) ≡ true → also_all xs bound v ≡ false
  all_free bound xs free other = ap (λ b. b || bound v) (of_not (holds v xs) other) ∙ free

  mutual
    use_found : (bound : ℕ → Bool) (t : LocalTerm) → bound v ≡ false → uses no_head v t ≡ true → holds v (free_uses bound t) ≡ true
    use_found bound (local.Variable x) free h = found bound free x (same_is x v h)
    use_found bound (local.Literal l) free h = let absent : ⊥ = cc in absurd absent
    use_found bound (local.Whole k ts) free h = any_found bound ts free h
    use_found bound (local.Part k ts) free h = any_found bound ts free h
    use_found bound (local.Apply f a) free h = elim (or_cases (uses no_head v f) (uses no_head v a) h) [
      | inl u ↦ first (free_uses bound f) (free_uses bound a) (use_found bound f free u)
      | inr u ↦ second (free_uses bound f) (free_uses bound a) (use_found bound a free u)
    ]
    use_found bound (local.Let x a b) free h = elim (or_cases (uses no_head v a) (not (nat_eq x v) && uses no_head v b) h) [
      | inl u ↦ first (free_uses bound a) (free_uses (also x bound) b) (use_found bound a free u)
      | inr u ↦
          second (free_uses bound a) (free_uses (also x bound) b)
          (use_found (also x bound) b (also_free bound x free (and_first (not (nat_eq x v)) (uses no_head v b) u))
          (and_second (not (nat_eq x v)) (uses no_head v b) u))
    ]
    use_found bound (local.Free x t) free h =
        use_found (also x bound) t (also_free bound x free (and_first (not (nat_eq x v)) (uses no_head v t) h))
        (and_second (not (nat_eq x v)) (uses no_head v t) h)
    use_found bound (local.Or a b) free h = elim (or_cases (uses no_head v a) (uses no_head v b) h) [
      | inl u ↦ first (free_uses bound a) (free_uses bound b) (use_found bound a free u)
      | inr u ↦ second (free_uses bound a) (free_uses bound b) (use_found bound b free u)
    ]
    use_found bound (local.Case mode a rows) free h = elim (or_cases (uses no_head v a) (alternatives_use no_head v rows) h) [
      | inl u ↦ first (free_uses bound a) (free_in_alternatives bound rows) (use_found bound a free u)
      | inr u ↦ second (free_uses bound a) (free_in_alternatives bound rows) (row_found bound rows free u)
    ]

    any_found : (bound : ℕ → Bool) (ts : LocalTerms) → bound v ≡ false → any_use no_head v ts ≡ true → holds v (free_in_all bound ts) ≡ true
    any_found bound local.NoTerm free h = let absent : ⊥ = cc in absurd absent
    any_found bound (local.MoreTerms t ts) free h = elim (or_cases (uses no_head v t) (any_use no_head v ts) h) [
      | inl u ↦ first (free_uses bound t) (free_in_all bound ts) (use_found bound t free u)
      | inr u ↦ second (free_uses bound t) (free_in_all bound ts) (any_found bound ts free u)
    ]

    row_found : (bound : ℕ → Bool) (rows : LocalAlternatives) → bound v ≡ false → alternatives_use no_head v rows ≡ true
        → holds v (free_in_alternatives bound rows) ≡ true
    row_found bound local.NoAlternative free h = let absent : ⊥ = cc in absurd absent
    row_found bound (local.MoreAlternatives p t rows) free h =
        elim (or_cases (not (holds v (variables_of p)) && uses no_head v t) (alternatives_use no_head v rows) h) [
          | inl u ↦
              first (free_uses (also_all (variables_of p) bound) t) (free_in_alternatives bound rows)
              (use_found (also_all (variables_of p) bound) t
              (all_free bound (variables_of p) free (and_first (not (holds v (variables_of p))) (uses no_head v t) u))
              (and_second (not (holds v (variables_of p))) (uses no_head v t) u))
          | inr u ↦ second (free_uses (also_all (variables_of p) bound) t) (free_in_alternatives bound rows) (row_found bound rows free u)
        ]

  pub rule_found : (rule : LocalRule) → holds v (all_variables rule.params) ≡ false → uses no_head v rule.body ≡ true
      → holds v (free_in_rule rule) ≡ true
  rule_found rule free u = use_found (held_by (all_variables rule.params)) rule.body free u

  rules_found : (rules : List LocalRule) → rules_use no_head v rules ≡ true → holds v (free_in_rules rules) ≡ true
  rules_found [] h = let absent : ⊥ = cc in absurd absent
  rules_found (rule ∷ rules) h = elim (or_cases (rule_uses no_head v rule) (rules_use no_head v rules) h) [
    | inl u ↦
        let bound = holds v (all_variables rule.params) in
        first (free_in_rule rule) (free_in_rules rules)
        (rule_found rule (of_not bound (and_first (not bound) (uses no_head v rule.body) u)) (and_second (not bound) (uses no_head v rule.body) u))
    | inr u ↦ second (free_in_rule rule) (free_in_rules rules) (rules_found rules u)
  ]

-- what a local function captures is used somewhere
pub captured_found : (f : TopFunction) (v k : ℕ) → Captures f.locals k v → holds v (free_in_function f) ≡ true
captured_found f v _ (captures.own k _ g e h) =
    held_second v (free_in_rules (rules_of f.body)) (flat_map free_in_local f.locals) (held_at free_in_local v k g f.locals e (rules_found v g.rules h))
captured_found f v _ (captures.through k h _ g e u c) = captured_found f v h c

-- what is free in a rule is bound by it, or used somewhere
pub free_found : (f : TopFunction) (v k : ℕ) (rule : LocalRule) → slice_get (rules_of f.body) k ≡ Some rule → IsFree f.locals v rule.body
    → holds v (all_variables rule.params) ≡ false → holds v (free_in_function f) ≡ true
free_found f v k rule e (captures.own h) free =
    held_first v (free_in_rules (rules_of f.body)) (flat_map free_in_local f.locals)
    (held_at free_in_rule v k rule (rules_of f.body) e (rule_found v rule free h))
free_found f v k rule e (captures.through h u c) free = captured_found f v h c
