-- The variables that the code finds are those that are captured.
use Rattle.std.proofs.Common.{◌≡◌, ℕ, ◌+◌, ◌<◌, inl, inr, IsTrue, nat_eq, List, [], ◌++◌, drop, flat_map, length, map, slice_get, take, Some, sym, ◌∙◌, subst}
use Rattle.cu_calculus.proofs.Lists.{get_map}
use Rattle.cu_calculus.specs.Valid.{holds}
use Rattle.cu_kernel.specs.Captures as captures
use Rattle.cu_kernel.specs.Captures.{AreCaptured, Captures, is_local, no_head, rules_use}
use Rattle.cu_kernel.specs.LocalKernel as kernel
use Rattle.cu_kernel.specs.LocalKernelOf.{local_function_meaning, local_rule_meaning}
use Rattle.cu_kernel.specs.LocalValid.{IsScoped, local_binders, outer_binders, rules_binders, rules_of}
use Rattle.cu_kernel.specs.declared.local.LocalFunction.{LocalFunction}
use Rattle.cu_lift.proofs.Elements.{none_in}
use Rattle.cu_lift.proofs.RowSteps.{in_row}
use Rattle.cu_cycles.proofs.Places.{mapped_at, there, within}
use Rattle.cu_lift.proofs.Using.{any_append, apart_at, binds_hold, call_use, held_at, holds_in, in_holds, linear_apart, linear_rest, or_cases, own_use, use_call, use_own}
use Rattle.cu_lift.specs.Groups.{IsIn}
use Rattle.cu_lift.specs.Inside.Capturing as capturing
use Rattle.cu_lift.specs.Inside.Capturing.{AreLocals, Meets, SetsTo, rules_parts}
use Rattle.cu_lift.specs.Inside.Ordering.{Row}
use Rattle.cu_lift.specs.declared.captures.Local.{Local}
use Rattle.cu_lift.specs.declared.captures.Part.TheVariants.{Binds, Calls, Uses}

module _ (top : kernel.TopFunction) (functions : List LocalFunction) (locals : List Local) (scoped : IsScoped top)
    (meant : top.locals ≡ map local_function_meaning functions) (sized : length locals ≡ length functions) (are : AreLocals functions locals) where
  abbrev ls : List kernel.LocalFunction
  ls = map local_function_meaning functions

  -- a local function of both
  both_at : (k : ℕ) (f : kernel.LocalFunction) → slice_get ls k ≡ Some f
      → (d : LocalFunction) × (l : Local) × (slice_get functions k ≡ Some d) × (slice_get locals k ≡ Some l) × (local_function_meaning d ≡ f)
  both_at k f e =
      let d = mapped_at local_function_meaning functions k f e in
      let low = within functions k d.0 d.1 in
      let l = there locals k (subst (λ (n : ℕ). k < n) (sym sized) low) in
      (d.0, l.0, d.1, l.1, d.2)

  -- ---- what is met is captured

  captured_of : (v k : ℕ) → Meets locals v k → Captures ls k v
  captured_of v _ (capturing.own k l e owns) =
      let low = within locals k l e in
      let d = there functions k (subst (λ (n : ℕ). k < n) sized low) in
      let is = are k d.0 l d.1 e in
      captures.own k v (local_function_meaning d.0) (get_map local_function_meaning functions k d.0 d.1)
      (own_use v (map local_rule_meaning d.0.rules.items) ((is.uses v).0 owns.0) (λ at. owns.1 ((is.binds v).1 at)))
  captured_of v _ (capturing.through k h l e calls free meets) =
      let low = within locals k l e in
      let d = there functions k (subst (λ (n : ℕ). k < n) sized low) in
      let is = are k d.0 l d.1 e in
      captures.through k h v (local_function_meaning d.0) (get_map local_function_meaning functions k d.0 d.1)
      (call_use h v (map local_rule_meaning d.0.rules.items) ((is.calls h).0 calls) (λ at. free ((is.binds v).1 at))) (captured_of v h meets)

  -- ---- what is captured isn't bound in the function that captures it

  outer : (v k : ℕ) (f : kernel.LocalFunction) → slice_get ls k ≡ Some f → IsTrue (holds v (outer_binders top k)) → IsTrue (holds v (local_binders f)) → ⊥
  outer v k f e p q =
      let rules = rules_binders (rules_of top.body) in
      let prefix = flat_map local_binders (take k top.locals) in
      let suffix = flat_map local_binders (drop (k + 1) top.locals) in
      let at = subst (λ (xs : List kernel.LocalFunction). slice_get xs k ≡ Some f) (sym meant) e in
      elim (or_cases (holds v rules) (holds v (prefix ++ suffix))
      (sym (any_append (nat_eq v) rules (prefix ++ suffix)) ∙ p)) [
        | inl here ↦
            linear_apart v rules (flat_map local_binders top.locals) scoped.once here (held_at v k f top.locals at q)
        | inr rest ↦ apart_at v k f top.locals at (linear_rest rules (flat_map local_binders top.locals) scoped.once) rest q
      ]

  not_bound : (v k : ℕ) (f : kernel.LocalFunction) → slice_get ls k ≡ Some f → Captures ls k v → IsIn (rules_parts f.rules) (Binds v) → ⊥
  not_bound v k f e c at =
      outer v k f e (scoped.captured k v (subst (λ (xs : List kernel.LocalFunction). Captures xs k v) (sym meant) c)) (binds_hold v f.rules at)

  met_own : (v k : ℕ) (f : kernel.LocalFunction) → slice_get ls k ≡ Some f → Captures ls k v → IsIn (rules_parts f.rules) (Uses v) → Meets locals v k
  met_own v k f e c at =
      let b = both_at k f e in
      let is = are k b.0 b.1 b.2 b.3 in
      let own = subst (λ (x : kernel.LocalFunction). IsIn (rules_parts x.rules) (Uses v)) (sym b.4) at in
      let free : IsIn b.1.binds.keys v → ⊥ = λ h. not_bound v k f e c (subst (λ (x : kernel.LocalFunction). IsIn (rules_parts x.rules) (Binds v)) b.4 ((is.binds v).0 h)) in
      capturing.own k b.1 b.3 ((is.uses v).1 own, free)

  met_through : (v k h : ℕ) (f : kernel.LocalFunction) → slice_get ls k ≡ Some f → Captures ls k v → IsIn (rules_parts f.rules) (Calls h) → Meets locals v h
      → Meets locals v k
  met_through v k h f e c at meets =
      let b = both_at k f e in
      let is = are k b.0 b.1 b.2 b.3 in
      let calls = subst (λ (x : kernel.LocalFunction). IsIn (rules_parts x.rules) (Calls h)) (sym b.4) at in
      let free : IsIn b.1.binds.keys v → ⊥ = λ p. not_bound v k f e c (subst (λ (x : kernel.LocalFunction). IsIn (rules_parts x.rules) (Binds v)) b.4 ((is.binds v).0 p)) in
      capturing.through k h b.1 b.3 ((is.calls h).1 calls) free meets

  met_of : (v k : ℕ) → Captures ls k v → Meets locals v k
  met_of v _ (captures.own k _ f e it) =
      let c : Captures ls k v = captures.own k v f e it in met_own v k f e c (use_own v f.rules (not_bound v k f e c) it)
  met_of v _ (captures.through k h _ f e it inner) =
      let c : Captures ls k v = captures.through k h v f e it inner in
      elim (use_call h v f.rules (not_bound v k f e c) it) [
        | inl own ↦ met_own v k f e c own
        | inr call ↦ met_through v k h f e c call (met_of v h inner)
      ]

  pub are_captured : (sets : List Row) → SetsTo locals [] sets → (k : ℕ) (row : Row) → slice_get sets k ≡ Some row → AreCaptured ls k row.items
  are_captured sets to k row e = record {
    rising = to.rising k row e;
    exact = λ v. (
      λ h. captured_of v k (to.sound k v (row, e, in_holds v row.items h)),
      λ c. elim (to.all k v (met_of v k c)) [
        | inl at ↦ holds_in v row.items (in_row sets k v row e at)
        | inr at ↦ absurd (none_in v at)
      ],
    );
  }
