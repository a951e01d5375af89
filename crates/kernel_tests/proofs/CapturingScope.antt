-- The top-level function whose local function captures its parameter is right by itself.
use Rattle.std.proofs.Common.{◌≡◌, ℕ, zero, suc, Bool, true, false, not, ◌&&◌, ◌||◌, IsTrue, [], ◌∷◌, Some, nat_eq, flat_map, refl, slice_get, subst, sym}
use Rattle.std.proofs.lemmas.Bool.{eqb-true}
use Rattle.cu_calculus.specs.Valid.{all_variables, holds}
use Rattle.cu_kernel.specs.Captures as captures
use Rattle.cu_kernel.specs.Captures.{Captures, IsFree, no_head, rules_use}
use Rattle.cu_kernel.specs.LocalKernel.{LocalFunction, LocalRule, TopFunction}
use Rattle.cu_kernel.specs.LocalTerm.{LocalTerm}
use Rattle.cu_kernel.specs.LocalValid.{IsScoped, all_rules, outer_binders, rule_lets}
use Rattle.kernel_tests.specs.Inside.CapturingSample.{inner_call, inner_function, outer_function, rule_of_one}

first_holds : (b : Bool) → (b || false) ≡ true → b ≡ true
first_holds true e = refl
first_holds false e = let no : ⊥ = cc in absurd no

second_holds : (a b : Bool) → ((not a && b) || false) ≡ true → b ≡ true
second_holds a true e = refl
second_holds true false e = let no : ⊥ = cc in absurd no
second_holds false false e = let no : ⊥ = cc in absurd no

own_variable : (k v : ℕ) (f : LocalFunction) → slice_get (inner_function ∷ []) k ≡ Some f → IsTrue (rules_use no_head v f.rules) → v ≡ 0
own_variable zero v f found used =
    let same : inner_function ≡ f = cc in
    sym (eqb-true 0 v (second_holds (holds v (1 ∷ [])) (nat_eq 0 v)
    (subst (λ (g : LocalFunction). IsTrue (rules_use no_head v g.rules)) (sym same) used)))
own_variable (suc k) v f found used = let no : ⊥ = cc in absurd no

-- the one local function captures x alone
captures_x : (k v : ℕ) → Captures (inner_function ∷ []) k v → v ≡ 0
captures_x _ v (captures.own k _ f found used) = own_variable k v f found used
captures_x _ v (captures.through k h _ f found used inside) = captures_x h v inside

free_x : (v : ℕ) → IsFree (inner_function ∷ []) v inner_call → v ≡ 0
free_x v (captures.own used) = sym (eqb-true 0 v (first_holds (nat_eq 0 v) used))
free_x v (captures.through h used inside) = captures_x h v inside

closed_in : (k v : ℕ) (rule : LocalRule) → slice_get (rule_of_one 0 inner_call ∷ []) k ≡ Some rule → IsFree (inner_function ∷ []) v rule.body
    → IsTrue (holds v (all_variables rule.params))
closed_in zero v rule found free =
    let same : rule_of_one 0 inner_call ≡ rule = cc in
    let is : v ≡ 0 = free_x v (subst (λ (r : LocalRule). IsFree (inner_function ∷ []) v r.body) (sym same) free) in
    subst (λ (r : LocalRule). IsTrue (holds v (all_variables r.params))) same (subst (λ (u : ℕ). IsTrue (holds u (0 ∷ []))) (sym is) refl)
closed_in (suc k) v rule found free = let no : ⊥ = cc in absurd no

captured_in : (k v : ℕ) → Captures (inner_function ∷ []) k v → IsTrue (holds v (outer_binders outer_function k))
captured_in k v inside = subst (λ (u : ℕ). IsTrue (holds u (outer_binders outer_function k))) (sym (captures_x k v inside)) refl

nothing_there : (k : ℕ) (l : ℕ × LocalTerm) → slice_get [] k ≡ Some l → ⊥
nothing_there k l found = cc

no_lets : (k x : ℕ) (a : LocalTerm) → slice_get (flat_map rule_lets (all_rules outer_function)) k ≡ Some (x, a) → IsFree (inner_function ∷ []) x a → ⊥
no_lets k x a found free = nothing_there k (x, a) found

pub outer_scoped : IsScoped outer_function
outer_scoped = record {
  arity = refl;
  locals = refl;
  calls = refl;
  once = refl;
  closed = closed_in;
  captured = captured_in;
  lets = no_lets;
}

pub scoped_as : (f : TopFunction) → f ≡ outer_function → IsScoped f
scoped_as f same = subst IsScoped (sym same) outer_scoped
