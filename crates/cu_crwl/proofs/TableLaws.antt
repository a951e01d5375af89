-- The test of the table decides the table.
use Rattle.std.proofs.Common.{◌≡◌, ℕ, zero, suc, Bool, true, false, ◌&&◌, ◌||◌, List, [], ◌∷◌, ◌++◌, Option, None, Some, nat_eq, slice_get, take, drop, if◌then◌else◌, length, refl, ap, ap₂, sym, subst, ◌∙◌, ◌⊎◌, inl, inr, arith, eq-eqb, eqb-true, le-ltb}
use Rattle.std.specs.List.{list_any}
use Rattle.std.proofs.Math.Seq.{drop-append_seam, take-append_seam}
use Rattle.std.proofs.lemmas.List.{take-append-drop}
use Rattle.std.proofs.lemmas.Bool.{and_from, and_parts, or_cases}
use Rattle.cu_calculus.specs.declared.ConId.{ConId}
use Rattle.cu_calculus.specs.declared.FunId.{FunId}
use Rattle.cu_calculus.specs.declared.Head.{Head}
use Rattle.cu_calculus.specs.declared.Head.TheVariants as head
use Rattle.cu_calculus.specs.declared.Lit.{Lit}
use Rattle.cu_calculus.specs.declared.Mode.{Mode}
use Rattle.cu_calculus.specs.declared.builtin.Primitive.{Primitive}
use Rattle.cu_calculus.specs.Answered.{answered, same_head, same_values}
use Rattle.cu_calculus.specs.Choose.{Chooses, Selects, alternative_at, rows_from}
use Rattle.cu_calculus.specs.Chosen.{chosen}
use Rattle.cu_calculus.specs.Gives.{Claim, collected}
use Rattle.cu_calculus.specs.Match.{Bindings, all_matched, bind_all, empty, matched, same_constructor}
use Rattle.cu_calculus.specs.Program.{Body, External, Function, Program, Rule, Rules, arity_in, function_of}
use Rattle.cu_calculus.specs.Proof as proof
use Rattle.cu_calculus.specs.Proof.{AllSay, Applies, AppliesTo, Follows, Says, Statement, env_of}
use Rattle.cu_calculus.specs.Shape.{are_ground, is_of, is_total_data, takes, takes_more}
use Rattle.cu_calculus.specs.Term as term
use Rattle.cu_calculus.specs.Term.{Alternatives, Pattern, Term, Terms}
use Rattle.cu_calculus.specs.Valid.{term_count}
use Rattle.cu_calculus.specs.Value as value
use Rattle.cu_calculus.specs.Value.{Value, Values, and_then, count}
use Rattle.cu_calculus.proofs.Answering.{answered_answers, answers_answered, function_is, head_is, head_itself, literal_is, same_value_from, value_is, values_are, values_themselves}
use Rattle.cu_calculus.proofs.Choosing.{chooses_chosen, chosen_chooses, literal_itself}
use Rattle.cu_calculus.proofs.Comparing.{same_is, same_itself}
use Rattle.cu_values.specs.Approximation.{is_below}
use Rattle.cu_values.proofs.BelowLemmas.{below_from, below_to}
use Rattle.cu_crwl.specs.Environments.{all_about, is_about, says, values_said}
use Rattle.cu_crwl.specs.Table.{alternative_gives, application_gives, applied_to, applies, apply_follows, body_gives, case_follows, choice_gives, claim_gives, claims_give, first_cited, follows, free_follows, free_gives, is_answer, is_bottom, is_built, is_literal_value, is_part, let_follows, none_cited, one_cited, or_follows, part_follows, row_follows, rule_gives, rules_give, two_cited, whole_follows}
use Rattle.cu_crwl.proofs.EnvironmentLaws.{about_says, all_about_say, all_say_about, said, says_about, says_says}

-- values of a form

built_is : (c : ConId) (us : Values) (v : Value) → is_built c us v ≡ true → v ≡ value.Constructed c us
built_is c us (value.Constructed d vs) e =
    let parts = and_parts (same_constructor d c) (same_values vs us) e in ap₂ value.Constructed (same_is d c parts.0) (values_are vs us parts.1)
built_is c us _ e = let never : ⊥ = cc in absurd never

is_built_from : (c : ConId) (us : Values) (v : Value) → v ≡ value.Constructed c us → is_built c us v ≡ true
is_built_from c us v e =
    subst (λ (x : Value). is_built c us x ≡ true) (sym e) (and_from (same_constructor c c) (same_values us us) (same_itself c) (values_themselves us))

part_is : (h : Head) (us : Values) (v : Value) → is_part h us v ≡ true → v ≡ value.Partial h us
part_is h us (value.Partial k vs) e =
    let parts = and_parts (same_head k h) (same_values vs us) e in ap₂ value.Partial (head_is k h parts.0) (values_are vs us parts.1)
part_is h us _ e = let never : ⊥ = cc in absurd never

is_part_from : (h : Head) (us : Values) → is_part h us (value.Partial h us) ≡ true
is_part_from h us = and_from (same_head h h) (same_values us us) (head_itself h) (values_themselves us)

literal_value_is : (l : Lit) (v : Value) → is_literal_value l v ≡ true → v ≡ value.Literal l
literal_value_is l (value.Literal m) e = ap value.Literal (literal_is m l e)
literal_value_is l _ e = let never : ⊥ = cc in absurd never

bottom_is : (v : Value) → is_bottom v ≡ true → v ≡ value.Bottom
bottom_is value.Bottom e = refl
bottom_is _ e = let never : ⊥ = cc in absurd never

-- citations of a number

none_is : (ss : List Statement) → none_cited ss ≡ true → ss ≡ []
none_is [] e = refl
none_is (s ∷ ss) e = let never : ⊥ = cc in absurd never

one_is : (ss : List Statement) (s : Statement) → one_cited ss ≡ Some s → ss ≡ s ∷ []
one_is [] s e = let never : ⊥ = cc in absurd never
one_is (r ∷ []) s e = let same : r ≡ s = cc in ap (λ x. x ∷ []) same
one_is (r ∷ q ∷ ss) s e = let never : ⊥ = cc in absurd never

two_are : (ss : List Statement) (pair : Statement × Statement) → two_cited ss ≡ Some pair → ss ≡ pair.0 ∷ pair.1 ∷ []
two_are [] pair e = let never : ⊥ = cc in absurd never
two_are (s ∷ []) pair e = let never : ⊥ = cc in absurd never
two_are (s ∷ r ∷ []) pair e = let same : (s, r) ≡ pair = cc in ap (λ (p : Statement × Statement). p.0 ∷ p.1 ∷ []) same
two_are (s ∷ r ∷ q ∷ ss) pair e = let never : ⊥ = cc in absurd never

first_are : (ss : List Statement) (found : Statement × Statement × List Statement) → first_cited ss ≡ Some found
    → ss ≡ found.0 ∷ found.1 ∷ found.2
first_are [] found e = let never : ⊥ = cc in absurd never
first_are (s ∷ []) found e = let never : ⊥ = cc in absurd never
first_are (s ∷ r ∷ ss) found e =
    let same : (s, r, ss) ≡ found = cc in ap (λ (p : Statement × Statement × List Statement). p.0 ∷ p.1 ∷ p.2) same

-- an element that passes a test
some_passes : {A : Type 0} (test : A → Bool) (xs : List A) → list_any test xs ≡ true → (k : ℕ) × (x : A) × (slice_get xs k ≡ Some x) × (test x ≡ true)
some_passes test [] e = let never : ⊥ = cc in absurd never
some_passes {A = A} test (x ∷ xs) e = by (λ f. some_passes test xs f) (or_cases (test x) (list_any test xs) e)
  where
    by : (list_any test xs ≡ true → (k : ℕ) × (y : A) × (slice_get xs k ≡ Some y) × (test y ≡ true))
        → (test x ≡ true) ⊎ (list_any test xs ≡ true) → (k : ℕ) × (y : A) × (slice_get (x ∷ xs) k ≡ Some y) × (test y ≡ true)
    by rest (inl f) = (0, x, refl, f)
    by rest (inr f) = let found = rest f in (suc found.0, found.1, found.2, found.3)

or_left : (a b : Bool) → a ≡ true → (a || b) ≡ true
or_left a b e = ap (λ x. x || b) e

or_right : (a b : Bool) → b ≡ true → (a || b) ≡ true
or_right true b e = refl
or_right false b e = e

passes_some : {A : Type 0} (test : A → Bool) (xs : List A) (k : ℕ) (x : A) → slice_get xs k ≡ Some x → test x ≡ true → list_any test xs ≡ true
passes_some test [] k x e f = let never : ⊥ = cc in absurd never
passes_some test (y ∷ xs) zero x e f =
    let same : y ≡ x = cc in or_left (test y) (list_any test xs) (ap test same ∙ f)
passes_some test (y ∷ xs) (suc k) x e f = or_right (test y) (list_any test xs) (passes_some test xs k x e f)

module _ (program : Program) (claims : List Claim) where
  -- heads on values

  rule_applies : (f : FunId) (function : Function) (rules : List Rule) (k : ℕ) (rule : Rule) (us : Values) (s : Statement) (v : Value)
      → function_of program f ≡ Some function → function.body ≡ Rules rules → slice_get rules k ≡ Some rule
      → (found : Option Bindings) → all_matched rule.params us ≡ found
      → elim found [ Some bindings ↦ says s bindings [] rule.body v | None ↦ false ] ≡ true
      → Applies program claims (head.Fun f) us (s ∷ []) v
  rule_applies f function rules k rule us s v is body at None match e = let never : ⊥ = cc in absurd never
  rule_applies f function rules k rule us s v is body at (Some bindings) match e =
      proof.by_rule f function rules k rule bindings us s v is body at match (says_says s bindings [] rule.body v e)

  rules_apply : (f : FunId) (function : Function) (rules : List Rule) (us : Values) (last : List Statement) (v : Value)
      → function_of program f ≡ Some function → function.body ≡ Rules rules → (cited : Option Statement) → one_cited last ≡ cited
      → rules_give us cited v rules ≡ true → Applies program claims (head.Fun f) us last v
  rules_apply f function rules us last v is body None one e = let never : ⊥ = cc in absurd never
  rules_apply f function rules us last v is body (Some s) one e =
      let found = some_passes (rule_gives us s v) rules e in
      subst (λ (ss : List Statement). Applies program claims (head.Fun f) us ss v) (sym (one_is last s one))
      (rule_applies f function rules found.0 found.1 us s v is body found.2 (all_matched found.1.params us) refl found.3)

  external_applies : (f : FunId) (function : Function) (operation : Primitive) (us : Values) (v : Value)
      → function_of program f ≡ Some function → function.body ≡ External operation
      → (found : Option Value) → answered program operation us ≡ found → is_answer found v ≡ true → Applies program claims (head.Fun f) us [] v
  external_applies f function operation us v is body None found e = let never : ⊥ = cc in absurd never
  external_applies f function operation us v is body (Some answer) found e =
      let same : answer ≡ v = value_is answer v e in
      proof.builtin f function operation us v is body (answered_answers program operation us v (found ∙ ap Some same))

  body_applies : (f : FunId) (function : Function) (us : Values) (last : List Statement) (v : Value) → function_of program f ≡ Some function
      → (body : Body) → function.body ≡ body → body_gives program us last v body ≡ true → Applies program claims (head.Fun f) us last v
  body_applies f function us last v is (Rules rules) body e = rules_apply f function rules us last v is body (one_cited last) refl e
  body_applies f function us last v is (External operation) body e =
      let parts = and_parts (none_cited last) (is_answer (answered program operation us) v) e in
      subst (λ (ss : List Statement). Applies program claims (head.Fun f) us ss v) (sym (none_is last parts.0))
      (external_applies f function operation us v is body (answered program operation us) refl parts.1)

  function_applies : (f : FunId) (us : Values) (last : List Statement) (v : Value) (found : Option Function) → function_of program f ≡ found
      → elim found [ Some function ↦ body_gives program us last v function.body | None ↦ false ] ≡ true
      → Applies program claims (head.Fun f) us last v
  function_applies f us last v None is e = let never : ⊥ = cc in absurd never
  function_applies f us last v (Some function) is e = body_applies f function us last v is function.body refl e

  claims_apply : (f : FunId) (us : Values) (v : Value) (found : Option ConId) → program.special.values ≡ found → are_ground us ≡ true
      → claims_give program found claims f us v ≡ true → Applies program claims (head.Set f) us [] v
  claims_apply f us v None is ground e = let never : ⊥ = cc in absurd never
  claims_apply f us v (Some c) is ground e =
      let found = some_passes (claim_gives program c f us v) claims e in
      let claim = found.1 in
      let parts = and_parts (nat_eq claim.function.0 f.0 && same_values claim.arguments us) (is_below v (collected program c claim.values)) found.3 in
      let more = and_parts (nat_eq claim.function.0 f.0) (same_values claim.arguments us) parts.0 in
      proof.collect f claim found.0 c us v ground found.2 (function_is claim.function f more.0) (values_are claim.arguments us more.1) is
      (below_from v (collected program c claim.values) parts.1)

  pub applies_from : (h : Head) (us : Values) (last : List Statement) (v : Value) → applies program claims h us last v ≡ true
      → Applies program claims h us last v
  unfolding applies
  applies_from (head.Con c) us last v e =
      let parts = and_parts (none_cited last) (is_built c us v) e in
      subst (λ (ss : List Statement). Applies program claims (head.Con c) us ss v) (sym (none_is last parts.0))
      (proof.constructed c us v (built_is c us v parts.1))
  applies_from (head.Fun f) us last v e = function_applies f us last v (function_of program f) refl e
  applies_from (head.Set f) us last v e =
      let parts = and_parts (none_cited last && are_ground us) (claims_give program program.special.values claims f us v) e in
      let more = and_parts (none_cited last) (are_ground us) parts.0 in
      subst (λ (ss : List Statement). Applies program claims (head.Set f) us ss v) (sym (none_is last more.0))
      (claims_apply f us v program.special.values refl more.1 parts.1)

  rule_to : (rule : Rule) (us : Values) (s : Statement) (v : Value) (bindings : Bindings) → all_matched rule.params us ≡ Some bindings
      → says s bindings [] rule.body v ≡ true → rule_gives us s v rule ≡ true
  rule_to rule us s v bindings match e =
      ap (λ (found : Option Bindings). elim found [ Some bindings ↦ says s bindings [] rule.body v | None ↦ false ]) match ∙ e

  function_to : (f : FunId) (function : Function) (us : Values) (last : List Statement) (v : Value) (body : Body)
      → function_of program f ≡ Some function → function.body ≡ body → body_gives program us last v body ≡ true
      → applies program claims (head.Fun f) us last v ≡ true
  unfolding applies
  function_to f function us last v body is at e =
      ap (λ (found : Option Function). elim found [ Some g ↦ body_gives program us last v g.body | None ↦ false ]) is
      ∙ ap (body_gives program us last v) at ∙ e

  pub applies_to : (h : Head) (us : Values) (last : List Statement) (v : Value) → Applies program claims h us last v
      → applies program claims h us last v ≡ true
  unfolding applies
  applies_to _ us _ v (proof.constructed c _ _ e) = is_built_from c us v e
  applies_to _ us _ v (proof.by_rule f function rules k rule bindings _ s _ is body at match says) =
      function_to f function us (s ∷ []) v (Rules rules) is body
      (passes_some (rule_gives us s v) rules k rule at (rule_to rule us s v bindings match (said s bindings [] rule.body v says)))
  applies_to _ us _ v (proof.builtin f function operation _ _ is body answers) =
      function_to f function us [] v (External operation) is body
      (ap (λ (found : Option Value). is_answer found v) (answers_answered program operation us v answers) ∙ same_value_from v v refl)
  applies_to _ us _ v (proof.collect f claim k c _ _ ground at function arguments is below) =
      and_from (are_ground us) (claims_give program program.special.values claims f us v) ground
      (ap (λ (found : Option ConId). claims_give program found claims f us v) is
      ∙ passes_some (claim_gives program c f us v) claims k claim at
      (and_from (nat_eq claim.function.0 f.0 && same_values claim.arguments us) (is_below v (collected program c claim.values))
      (and_from (nat_eq claim.function.0 f.0) (same_values claim.arguments us)
      (eq-eqb claim.function.0 f.0 (ap (λ (g : FunId). g.0) function))
      (subst (λ (xs : Values). same_values claim.arguments xs ≡ true) arguments (values_themselves claim.arguments)))
      (below_to v (collected program c claim.values) below)))

  -- the rows of the table

  split_at : (n : ℕ) (cited : List Statement) → cited ≡ take n cited ++ drop n cited
  split_at n cited = sym (take-append-drop n cited)

  part_from : (cited : List Statement) (env : Bindings) (h : Head) (ts : Terms) (v : Value) → part_follows cited env h ts v ≡ true
      → Follows program claims cited (bind_all empty env) (term.Part h ts) v
  part_from cited env h ts v e =
      let parts = and_parts (all_about cited env ts) (is_part h (values_said cited) v) e in
      subst (λ (x : Value). Follows program claims cited (bind_all empty env) (term.Part h ts) x) (sym (part_is h (values_said cited) v parts.1))
      (proof.part cited (bind_all empty env) h ts (values_said cited) (all_about_say cited env ts parts.0))

  whole_from : (cited parts last : List Statement) (env : Bindings) (h : Head) (ts : Terms) (v : Value) → cited ≡ parts ++ last
      → whole_follows program claims parts last env h ts v ≡ true → Follows program claims cited (bind_all empty env) (term.Whole h ts) v
  whole_from cited parts last env h ts v is e =
      let both = and_parts (all_about parts env ts) (applies program claims h (values_said parts) last v) e in
      proof.whole cited parts last (bind_all empty env) h ts (values_said parts) v is (all_about_say parts env ts both.0)
      (applies_from h (values_said parts) last v both.1)

  extension_from : (h : Head) (us : Values) (u : Value) (last : List Statement) (v : Value)
      → applied_to program claims h (and_then us u) last v ≡ true → AppliesTo program claims (value.Partial h us) u last v
  extension_from h us u last v e = by (takes_more (arity_in program h) (count more)) refl e
    where
      more : Values
      more = and_then us u

      by : (b : Bool) → takes_more (arity_in program h) (count more) ≡ b
          → (if b then none_cited last && is_part h more v else takes (arity_in program h) (count more) && applies program claims h more last v) ≡ true
          → AppliesTo program claims (value.Partial h us) u last v
      by true lacks g =
          let parts = and_parts (none_cited last) (is_part h more v) g in
          subst (λ (ss : List Statement). AppliesTo program claims (value.Partial h us) u ss v) (sym (none_is last parts.0))
          (subst (λ (x : Value). AppliesTo program claims (value.Partial h us) u [] x) (sym (part_is h more v parts.1))
          (proof.extended h us more u refl lacks))
      by false full g =
          let parts = and_parts (takes (arity_in program h) (count more)) (applies program claims h more last v) g in
          proof.completed h us more u last v refl parts.0 (applies_from h more last v parts.1)

  application_from : (w u : Value) (last : List Statement) (v : Value) → application_gives program claims w u last v ≡ true
      → AppliesTo program claims w u last v
  application_from (value.Partial h us) u last v e = extension_from h us u last v e
  application_from _ u last v e = let never : ⊥ = cc in absurd never

  apply_from : (cited : List Statement) (env : Bindings) (f a : Term) (v : Value) (found : Option (Statement × Statement × List Statement))
      → first_cited cited ≡ found → apply_follows program claims found env f a v ≡ true
      → Follows program claims cited (bind_all empty env) (term.Apply f a) v
  apply_from cited env f a v None is e = let never : ⊥ = cc in absurd never
  apply_from cited env f a v (Some found) is e =
      let parts = and_parts (is_about found.0 [] env f && is_about found.1 [] env a) (application_gives program claims found.0.value found.1.value found.2 v) e in
      let more = and_parts (is_about found.0 [] env f) (is_about found.1 [] env a) parts.0 in
      subst (λ (ss : List Statement). Follows program claims ss (bind_all empty env) (term.Apply f a) v) (sym (first_are cited found is))
      (proof.applied found.0 found.1 found.2 (bind_all empty env) f a found.0.value found.1.value v (about_says found.0 [] env f more.0)
      (about_says found.1 [] env a more.1) (application_from found.0.value found.1.value found.2 v parts.1))

  let_from : (cited : List Statement) (env : Bindings) (x : ℕ) (a b : Term) (v : Value) (found : Option (Statement × Statement))
      → two_cited cited ≡ found → let_follows found env x a b v ≡ true → Follows program claims cited (bind_all empty env) (term.Let x a b) v
  let_from cited env x a b v None is e = let never : ⊥ = cc in absurd never
  let_from cited env x a b v (Some found) is e =
      let parts = and_parts (is_about found.0 [] env a) (says found.1 ((x, found.0.value) ∷ []) env b v) e in
      subst (λ (ss : List Statement). Follows program claims ss (bind_all empty env) (term.Let x a b) v) (sym (two_are cited found is))
      (proof.bound found.0 found.1 (bind_all empty env) x a b found.0.value v (about_says found.0 [] env a parts.0)
      (says_says found.1 ((x, found.0.value) ∷ []) env b v parts.1))

  free_from : (cited : List Statement) (env : Bindings) (x : ℕ) (t : Term) (v : Value) (found : Option Statement)
      → one_cited cited ≡ found → free_follows program found env x t v ≡ true → Follows program claims cited (bind_all empty env) (term.Free x t) v
  free_from cited env x t v None is e = let never : ⊥ = cc in absurd never
  free_from cited env x t v (Some s) is e =
      let u = bind_all empty s.env x in
      let parts = and_parts (is_total_data u && is_of program u) (says s ((x, u) ∷ []) env t v) e in
      let more = and_parts (is_total_data u) (is_of program u) parts.0 in
      subst (λ (ss : List Statement). Follows program claims ss (bind_all empty env) (term.Free x t) v) (sym (one_is cited s is))
      (proof.free s (bind_all empty env) x t u v more.0 more.1 (says_says s ((x, u) ∷ []) env t v parts.1))

  or_from : (cited : List Statement) (env : Bindings) (a b : Term) (v : Value) (found : Option Statement)
      → one_cited cited ≡ found → or_follows found env a b v ≡ true → Follows program claims cited (bind_all empty env) (term.Or a b) v
  or_from cited env a b v None is e = let never : ⊥ = cc in absurd never
  or_from cited env a b v (Some s) is e =
      subst (λ (ss : List Statement). Follows program claims ss (bind_all empty env) (term.Or a b) v) (sym (one_is cited s is))
      (by (or_cases (says s [] env a v) (says s [] env b v) e))
    where
      by : (says s [] env a v ≡ true) ⊎ (says s [] env b v ≡ true) → Follows program claims (s ∷ []) (bind_all empty env) (term.Or a b) v
      by (inl f) = proof.left s (bind_all empty env) a b v (says_says s [] env a v f)
      by (inr f) = proof.right s (bind_all empty env) a b v (says_says s [] env b v f)

  alternative_from : (s r : Statement) (env : Bindings) (mode : Mode) (a t : Term) (alternatives : Alternatives) (k : ℕ) (p : Pattern) (v : Value)
      → Says s (bind_all empty env) a s.value → Chooses program (rows_from 0 alternatives) (s.value ∷ []) k → alternative_at alternatives k ≡ Some (p, t)
      → (found : Option Bindings) → matched p s.value ≡ found
      → elim found [ Some bindings ↦ says r bindings env t v | None ↦ false ] ≡ true
      → Follows program claims (s ∷ r ∷ []) (bind_all empty env) (term.Case mode a alternatives) v
  alternative_from s r env mode a t alternatives k p v first chooses at None match e = let never : ⊥ = cc in absurd never
  alternative_from s r env mode a t alternatives k p v first chooses at (Some bindings) match e =
      let selects : Selects program alternatives s.value t bindings = record { choice = k; pattern = p; chooses = chooses; at = at; matches = match } in
      proof.chosen s r (bind_all empty env) mode a t alternatives bindings s.value v first selects (says_says r bindings env t v e)

  taken_from : (s r : Statement) (env : Bindings) (mode : Mode) (a : Term) (alternatives : Alternatives) (k : ℕ) (v : Value)
      → Says s (bind_all empty env) a s.value → Chooses program (rows_from 0 alternatives) (s.value ∷ []) k
      → (found : Option (Pattern × Term)) → alternative_at alternatives k ≡ found → alternative_gives r env s.value v found ≡ true
      → Follows program claims (s ∷ r ∷ []) (bind_all empty env) (term.Case mode a alternatives) v
  taken_from s r env mode a alternatives k v first chooses None at e = let never : ⊥ = cc in absurd never
  taken_from s r env mode a alternatives k v first chooses (Some row) at e =
      alternative_from s r env mode a row.1 alternatives k row.0 v first chooses at (matched row.0 s.value) refl e

  choice_from : (s r : Statement) (env : Bindings) (mode : Mode) (a : Term) (alternatives : Alternatives) (v : Value)
      → Says s (bind_all empty env) a s.value → (found : Option ℕ) → chosen program (rows_from 0 alternatives) (s.value ∷ []) ≡ found
      → choice_gives r env s.value v alternatives found ≡ true
      → Follows program claims (s ∷ r ∷ []) (bind_all empty env) (term.Case mode a alternatives) v
  choice_from s r env mode a alternatives v first None is e = let never : ⊥ = cc in absurd never
  choice_from s r env mode a alternatives v first (Some k) is e =
      taken_from s r env mode a alternatives k v first (chosen_chooses program (rows_from 0 alternatives) (s.value ∷ []) k is)
      (alternative_at alternatives k) refl e

  case_from : (cited : List Statement) (env : Bindings) (mode : Mode) (a : Term) (alternatives : Alternatives) (v : Value)
      (found : Option (Statement × Statement)) → two_cited cited ≡ found → case_follows program found env a alternatives v ≡ true
      → Follows program claims cited (bind_all empty env) (term.Case mode a alternatives) v
  case_from cited env mode a alternatives v None is e = let never : ⊥ = cc in absurd never
  case_from cited env mode a alternatives v (Some found) is e =
      let u = found.0.value in
      let parts = and_parts (is_about found.0 [] env a) (choice_gives found.1 env u v alternatives (chosen program (rows_from 0 alternatives) (u ∷ []))) e in
      subst (λ (ss : List Statement). Follows program claims ss (bind_all empty env) (term.Case mode a alternatives) v) (sym (two_are cited found is))
      (choice_from found.0 found.1 env mode a alternatives v (about_says found.0 [] env a parts.0) (chosen program (rows_from 0 alternatives) (u ∷ [])) refl parts.1)

  row_from : (cited : List Statement) (env : Bindings) (t : Term) (v : Value) → row_follows program claims cited env t v ≡ true
      → Follows program claims cited (bind_all empty env) t v
  unfolding row_follows
  row_from cited env (term.Variable x) v e =
      let parts = and_parts (none_cited cited) (is_below v (bind_all empty env x)) e in
      subst (λ (ss : List Statement). Follows program claims ss (bind_all empty env) (term.Variable x) v) (sym (none_is cited parts.0))
      (proof.variable (bind_all empty env) x v (below_from v (bind_all empty env x) parts.1))
  row_from cited env (term.Literal l) v e =
      let parts = and_parts (none_cited cited) (is_literal_value l v) e in
      subst (λ (ss : List Statement). Follows program claims ss (bind_all empty env) (term.Literal l) v) (sym (none_is cited parts.0))
      (subst (λ (x : Value). Follows program claims [] (bind_all empty env) (term.Literal l) x) (sym (literal_value_is l v parts.1))
      (proof.literal (bind_all empty env) l))
  row_from cited env (term.Whole h ts) v e =
      whole_from cited (take (term_count ts) cited) (drop (term_count ts) cited) env h ts v (split_at (term_count ts) cited) e
  row_from cited env (term.Part h ts) v e = part_from cited env h ts v e
  row_from cited env (term.Apply f a) v e = apply_from cited env f a v (first_cited cited) refl e
  row_from cited env (term.Let x a b) v e = let_from cited env x a b v (two_cited cited) refl e
  row_from cited env (term.Free x t) v e = free_from cited env x t v (one_cited cited) refl e
  row_from cited env (term.Or a b) v e = or_from cited env a b v (one_cited cited) refl e
  row_from cited env (term.Case mode a alternatives) v e = case_from cited env mode a alternatives v (two_cited cited) refl e

  pub follows_from : (cited : List Statement) (env : Bindings) (t : Term) (v : Value) → follows program claims cited env t v ≡ true
      → Follows program claims cited (bind_all empty env) t v
  unfolding follows
  follows_from cited env t v e = by (or_cases (none_cited cited && is_bottom v) (row_follows program claims cited env t v) e)
    where
      by : ((none_cited cited && is_bottom v) ≡ true) ⊎ (row_follows program claims cited env t v ≡ true)
          → Follows program claims cited (bind_all empty env) t v
      by (inl f) =
          let parts = and_parts (none_cited cited) (is_bottom v) f in
          subst (λ (ss : List Statement). Follows program claims ss (bind_all empty env) t v) (sym (none_is cited parts.0))
          (subst (λ (x : Value). Follows program claims [] (bind_all empty env) t x) (sym (bottom_is v parts.1)) (proof.bottom (bind_all empty env) t))
      by (inr f) = row_from cited env t v f

  -- back: what follows passes the test

  by_row : (cited : List Statement) (env : Bindings) (t : Term) (v : Value) → row_follows program claims cited env t v ≡ true
      → follows program claims cited env t v ≡ true
  unfolding follows
  by_row cited env t v e = or_right (none_cited cited && is_bottom v) (row_follows program claims cited env t v) e

  about_count : (ss : List Statement) (env : Bindings) (ts : Terms) → all_about ss env ts ≡ true → length ss ≡ term_count ts
  about_count [] env term.NoTerm e = refl
  about_count [] env (term.MoreTerms t ts) e = let never : ⊥ = cc in absurd never
  about_count (s ∷ ss) env term.NoTerm e = let never : ⊥ = cc in absurd never
  about_count (s ∷ ss) env (term.MoreTerms t ts) e =
      let parts = and_parts (is_about s [] env t) (all_about ss env ts) e in omega (arith, about_count ss env ts parts.1)

  whole_to : (parts last : List Statement) (env : Bindings) (h : Head) (ts : Terms) (us : Values) (v : Value) → AllSay parts (bind_all empty env) ts us
      → Applies program claims h us last v
      → whole_follows program claims (take (term_count ts) (parts ++ last)) (drop (term_count ts) (parts ++ last)) env h ts v ≡ true
  whole_to parts last env h ts us v say applied =
      let about = all_say_about parts env ts us say in
      let size : length parts ≡ term_count ts = about_count parts env ts about.0 in
      let prefix : take (term_count ts) (parts ++ last) ≡ parts = ap (λ (n : ℕ). take n (parts ++ last)) (sym size) ∙ take-append_seam parts last in
      let suffix : drop (term_count ts) (parts ++ last) ≡ last = ap (λ (n : ℕ). drop n (parts ++ last)) (sym size) ∙ drop-append_seam parts last in
      ap₂ (λ (xs ys : List Statement). whole_follows program claims xs ys env h ts v) prefix suffix
      ∙ and_from (all_about parts env ts) (applies program claims h (values_said parts) last v) about.0
      (ap (λ (xs : Values). applies program claims h xs last v) about.1 ∙ applies_to h us last v applied)

  part_to : (cited : List Statement) (env : Bindings) (h : Head) (ts : Terms) (us : Values) → AllSay cited (bind_all empty env) ts us
      → part_follows cited env h ts (value.Partial h us) ≡ true
  part_to cited env h ts us say =
      let about = all_say_about cited env ts us say in
      and_from (all_about cited env ts) (is_part h (values_said cited) (value.Partial h us)) about.0
      (ap (λ (xs : Values). is_part h xs (value.Partial h us)) about.1 ∙ is_part_from h us)

  less_to : (w : Values) (h : Head) → takes_more (arity_in program h) (count w) ≡ true
      → applied_to program claims h w [] (value.Partial h w) ≡ true
  less_to w h lacks =
      ap (λ (b : Bool). if b then is_part h w (value.Partial h w)
      else takes (arity_in program h) (count w) && applies program claims h w [] (value.Partial h w)) lacks
      ∙ is_part_from h w

  not_both : (arity : Option ℕ) (n : ℕ) → takes arity n ≡ true → takes_more arity n ≡ false
  not_both None n whole = refl
  not_both (Some k) n whole = let size : k ≡ n = eqb-true k n whole in le-ltb n k (omega arith)

  full_to : (w : Values) (h : Head) (last : List Statement) (v : Value) → takes (arity_in program h) (count w) ≡ true
      → applies program claims h w last v ≡ true → applied_to program claims h w last v ≡ true
  full_to w h last v whole e =
      ap (λ (b : Bool). if b then none_cited last && is_part h w v else takes (arity_in program h) (count w) && applies program claims h w last v)
      (not_both (arity_in program h) (count w) whole)
      ∙ and_from (takes (arity_in program h) (count w)) (applies program claims h w last v) whole e

  application_to : (w u : Value) (last : List Statement) (v : Value) → AppliesTo program claims w u last v
      → application_gives program claims w u last v ≡ true
  application_to _ _ _ _ (proof.extended h us more u added lacks) =
      subst (λ (x : Values). applied_to program claims h x [] (value.Partial h more) ≡ true) added (less_to more h lacks)
  application_to _ _ _ _ (proof.completed h us all u last v added whole applied) =
      subst (λ (x : Values). applied_to program claims h x last v ≡ true) added (full_to all h last v whole (applies_to h all last v applied))

  apply_to : (s r : Statement) (last : List Statement) (env : Bindings) (f a : Term) (w u v : Value) → Says s (bind_all empty env) f w
      → Says r (bind_all empty env) a u → AppliesTo program claims w u last v → apply_follows program claims (Some (s, r, last)) env f a v ≡ true
  apply_to s r last env f a w u v first second applied =
      let function : s.value ≡ w = first.value in
      let argument : r.value ≡ u = second.value in
      and_from (is_about s [] env f && is_about r [] env a) (application_gives program claims s.value r.value last v)
      (and_from (is_about s [] env f) (is_about r [] env a) (says_about s [] env f w first) (says_about r [] env a u second))
      (ap (λ (x : Value). application_gives program claims x r.value last v) function
      ∙ ap (λ (x : Value). application_gives program claims w x last v) argument ∙ application_to w u last v applied)

  let_to : (s r : Statement) (env : Bindings) (x : ℕ) (a b : Term) (u v : Value) → Says s (bind_all empty env) a u
      → Says r (bind_all (bind_all empty env) ((x, u) ∷ [])) b v → let_follows (Some (s, r)) env x a b v ≡ true
  let_to s r env x a b u v first second =
      let given : s.value ≡ u = first.value in
      and_from (is_about s [] env a) (says r ((x, s.value) ∷ []) env b v) (says_about s [] env a u first)
      (ap (λ (w : Value). says r ((x, w) ∷ []) env b v) given ∙ said r ((x, u) ∷ []) env b v second)

  free_to : (s : Statement) (env : Bindings) (x : ℕ) (t : Term) (u v : Value) → is_total_data u ≡ true → is_of program u ≡ true
      → Says s (bind_all (bind_all empty env) ((x, u) ∷ [])) t v → free_follows program (Some s) env x t v ≡ true
  free_to s env x t u v total of h =
      let here : bind_all (bind_all empty env) ((x, u) ∷ []) x ≡ u =
      ap (λ (b : Bool). if b then u else bind_all empty env x) (eq-eqb x x refl) in
      let given : bind_all empty s.env x ≡ u = h.at x ∙ here in
      ap (λ (w : Value). free_gives program s env x w t v) given
      ∙ and_from (is_total_data u && is_of program u) (says s ((x, u) ∷ []) env t v) (and_from (is_total_data u) (is_of program u) total of)
      (said s ((x, u) ∷ []) env t v h)

  case_to : (s r : Statement) (env : Bindings) (a t : Term) (alternatives : Alternatives) (bindings : Bindings) (u v : Value)
      → Says s (bind_all empty env) a u → Selects program alternatives u t bindings → Says r (bind_all (bind_all empty env) bindings) t v
      → case_follows program (Some (s, r)) env a alternatives v ≡ true
  case_to s r env a t alternatives bindings u v first selects second =
      let given : s.value ≡ u = first.value in
      and_from (is_about s [] env a)
      (choice_gives r env s.value v alternatives (chosen program (rows_from 0 alternatives) (s.value ∷ []))) (says_about s [] env a u first)
      (ap (λ (w : Value). choice_gives r env w v alternatives (chosen program (rows_from 0 alternatives) (w ∷ []))) given
      ∙ ap (choice_gives r env u v alternatives) (chooses_chosen program (rows_from 0 alternatives) (u ∷ []) selects.choice selects.chooses)
      ∙ ap (alternative_gives r env u v) selects.at
      ∙ ap (λ (found : Option Bindings). elim found [ Some bs ↦ says r bs env t v | None ↦ false ]) selects.matches ∙ said r bindings env t v second)

  pub follows_to : (cited : List Statement) (env : Bindings) (t : Term) (v : Value) → Follows program claims cited (bind_all empty env) t v
      → follows program claims cited env t v ≡ true
  unfolding follows row_follows
  follows_to _ env t _ (proof.bottom _ _) = refl
  follows_to _ env _ v (proof.variable _ x _ below) = by_row [] env (term.Variable x) v (below_to v (bind_all empty env x) below)
  follows_to _ env _ _ (proof.literal _ l) = by_row [] env (term.Literal l) (value.Literal l) (literal_itself l)
  follows_to cited env _ v (proof.whole _ parts last _ h ts us _ is say applied) =
      by_row cited env (term.Whole h ts) v
      (ap (λ (ss : List Statement). whole_follows program claims (take (term_count ts) ss) (drop (term_count ts) ss) env h ts v) is
      ∙ whole_to parts last env h ts us v say applied)
  follows_to cited env _ _ (proof.part _ _ h ts us say) = by_row cited env (term.Part h ts) (value.Partial h us) (part_to cited env h ts us say)
  follows_to _ env _ v (proof.applied s r last _ f a w u _ first second applied) =
      by_row (s ∷ r ∷ last) env (term.Apply f a) v (apply_to s r last env f a w u v first second applied)
  follows_to _ env _ v (proof.bound s r _ x a b u _ first second) =
      by_row (s ∷ r ∷ []) env (term.Let x a b) v (let_to s r env x a b u v first second)
  follows_to _ env _ v (proof.free s _ x t u _ total of h) =
      by_row (s ∷ []) env (term.Free x t) v (free_to s env x t u v total of h)
  follows_to _ env _ v (proof.left s _ a b _ h) =
      by_row (s ∷ []) env (term.Or a b) v (or_left (says s [] env a v) (says s [] env b v) (said s [] env a v h))
  follows_to _ env _ v (proof.right s _ a b _ h) =
      by_row (s ∷ []) env (term.Or a b) v (or_right (says s [] env a v) (says s [] env b v) (said s [] env b v h))
  follows_to _ env _ v (proof.chosen s r _ mode a t alternatives bindings u _ first selects second) =
      by_row (s ∷ r ∷ []) env (term.Case mode a alternatives) v (case_to s r env a t alternatives bindings u v first selects second)
