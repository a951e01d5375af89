-- The tests on the rules of `&&` before lifting decide whether they are those that it has to have.
use Rattle.std.proofs.Common.{◌≡◌, ℕ, ◌+◌, true, false, ◌&&◌, List, [], ◌∷◌, Option, None, Some, map, nat_eq, arith, refl, sym, ◌∙◌, ap}
use Rattle.std.proofs.lemmas.Bool.{eq-eqb, eqb-true}
use Rattle.cu_calculus.specs.Program as calculus
use Rattle.cu_calculus.specs.Term as clean
use Rattle.cu_calculus.specs.Valid as valid
use Rattle.cu_calculus.specs.declared.ConId.{ConId}
use Rattle.cu_calculus.specs.declared.builtin.Special.{Special}
use Rattle.cu_kernel.proofs.Conjunction.{conjunction_is, is_the_conjunction, parts_true, true_parts}
use Rattle.cu_kernel.specs.LocalKernel.{External, LocalBody, LocalRule, Rules, TopFunction}
use Rattle.cu_kernel.specs.LocalTerm as local
use Rattle.cu_kernel.specs.LocalTerm.{LocalAlternatives, LocalTerm, LocalTerms}
use Rattle.cu_kernel.specs.LocalValid.{IsBoth, all_unlifted, alternatives_unlifted, rule_unlifted, term_count, unlifted}
use Rattle.cu_kernel.specs.Tests.{are_branches, are_conjunction_rules, different_variables, is_case_params, is_constant_pattern, is_constant_term, is_distinction, is_false_params, is_flex, is_true_params, is_variable, pattern_variable, same_variable, term_variable}
use Rattle.cu_kernel.specs.declared.local.LocalHead.TheVariants as head
use Rattle.cu_parts.specs.Inside.LocalConjunction.{are_local_branches, are_local_rules, is_local_both, is_local_case, is_local_conjunction, is_local_constant, is_local_distinction, is_local_false, is_local_head, is_local_true, local_variable}

-- ---- tests on terms without local functions

same_count : (ts : clean.Terms) → term_count (all_unlifted ts) ≡ valid.term_count ts
same_count clean.NoTerm = refl
same_count (clean.MoreTerms t ts) = ap (λ n. n + 1) (same_count ts)

same_constant : (c : ConId) (t : clean.Term) → is_local_constant c (unlifted t) ≡ is_constant_term c t
same_constant c (clean.Variable x) = refl
same_constant c (clean.Literal l) = refl
same_constant c (clean.Whole h ts) = ap (λ n. nat_eq n 0 && is_local_head c (head.Global h)) (same_count ts)
same_constant c (clean.Part h ts) = refl
same_constant c (clean.Apply f a) = refl
same_constant c (clean.Let x a b) = refl
same_constant c (clean.Free x t) = refl
same_constant c (clean.Or a b) = refl
same_constant c (clean.Case m t rows) = refl

same_term_variable : (t : clean.Term) → local_variable (unlifted t) ≡ term_variable t
same_term_variable (clean.Variable x) = refl
same_term_variable (clean.Literal l) = refl
same_term_variable (clean.Whole h ts) = refl
same_term_variable (clean.Part h ts) = refl
same_term_variable (clean.Apply f a) = refl
same_term_variable (clean.Let x a b) = refl
same_term_variable (clean.Free x t) = refl
same_term_variable (clean.Or a b) = refl
same_term_variable (clean.Case m t rows) = refl

same_branches : (special : Special) (y : Option ℕ) (rows : clean.Alternatives)
    → are_local_branches special y (alternatives_unlifted rows) ≡ are_branches special y rows
same_branches special y clean.NoAlternative = refl
same_branches special y (clean.MoreAlternatives p s clean.NoAlternative) = refl
same_branches special y (clean.MoreAlternatives p s (clean.MoreAlternatives q t clean.NoAlternative)) =
    ap (λ b. is_constant_pattern special.falsity p && b && is_constant_pattern special.truth q && same_variable y (local_variable (unlifted t)))
    (same_constant special.falsity s)
    ∙ ap (λ v. is_constant_pattern special.falsity p && is_constant_term special.falsity s && is_constant_pattern special.truth q && same_variable y v)
    (same_term_variable t)
same_branches special y (clean.MoreAlternatives p s (clean.MoreAlternatives q t (clean.MoreAlternatives r u rows))) = refl

same_distinction : (special : Special) (x y : Option ℕ) (t : clean.Term)
    → is_local_distinction special x y (unlifted t) ≡ is_distinction special x y t
same_distinction special x y (clean.Case m t rows) =
    ap (λ v. is_flex m && same_variable x v && are_local_branches special y (alternatives_unlifted rows)) (same_term_variable t)
    ∙ ap (λ b. is_flex m && same_variable x (term_variable t) && b) (same_branches special y rows)
same_distinction special x y (clean.Variable z) = refl
same_distinction special x y (clean.Literal l) = refl
same_distinction special x y (clean.Whole h ts) = refl
same_distinction special x y (clean.Part h ts) = refl
same_distinction special x y (clean.Apply f a) = refl
same_distinction special x y (clean.Let z a b) = refl
same_distinction special x y (clean.Free z t) = refl
same_distinction special x y (clean.Or a b) = refl

same_true : (special : Special) (t : clean.Term) (ps : clean.Patterns) → is_local_true special (unlifted t) ps ≡ is_true_params special t ps
same_true special t clean.NoPattern = refl
same_true special t (clean.MorePatterns p clean.NoPattern) = refl
same_true special t (clean.MorePatterns p (clean.MorePatterns q clean.NoPattern)) =
    ap (λ v. is_constant_pattern special.truth p && same_variable (pattern_variable q) v) (same_term_variable t)
same_true special t (clean.MorePatterns p (clean.MorePatterns q (clean.MorePatterns r ps))) = refl

same_false : (special : Special) (t : clean.Term) (ps : clean.Patterns) → is_local_false special (unlifted t) ps ≡ is_false_params special t ps
same_false special t clean.NoPattern = refl
same_false special t (clean.MorePatterns p clean.NoPattern) = refl
same_false special t (clean.MorePatterns p (clean.MorePatterns q clean.NoPattern)) =
    ap (λ b. is_constant_pattern special.falsity p && is_variable (pattern_variable q) && b) (same_constant special.falsity t)
same_false special t (clean.MorePatterns p (clean.MorePatterns q (clean.MorePatterns r ps))) = refl

same_case : (special : Special) (t : clean.Term) (ps : clean.Patterns) → is_local_case special (unlifted t) ps ≡ is_case_params special t ps
same_case special t clean.NoPattern = refl
same_case special t (clean.MorePatterns p clean.NoPattern) = refl
same_case special t (clean.MorePatterns p (clean.MorePatterns q clean.NoPattern)) =
    ap (λ b. different_variables (pattern_variable p) (pattern_variable q) && b)
    (same_distinction special (pattern_variable p) (pattern_variable q) t)
same_case special t (clean.MorePatterns p (clean.MorePatterns q (clean.MorePatterns r ps))) = refl

same_rules : (special : Special) (rules : List calculus.Rule) → are_local_rules special (map rule_unlifted rules) ≡ are_conjunction_rules special rules
same_rules special [] = refl
same_rules special (r ∷ []) = same_case special r.body r.params
same_rules special (r ∷ s ∷ []) =
    ap (λ b. b && is_local_false special (unlifted s.body) s.params) (same_true special r.body r.params)
    ∙ ap (λ b. is_true_params special r.body r.params && b) (same_false special s.body s.params)
same_rules special (r ∷ s ∷ t ∷ rest) = refl

-- ---- a term that passes has no local functions

-- the term, where it is of a form that the rules of `&&` have
abbrev plain : LocalTerm → clean.Term
plain (local.Variable x) = clean.Variable x
plain (local.Literal l) = clean.Literal l
plain (local.Whole (head.Global h) ts) = clean.Whole h clean.NoTerm
plain (local.Whole (head.Local k) ts) = clean.Variable 0
plain (local.Part h ts) = clean.Variable 0
plain (local.Apply f a) = clean.Variable 0
plain (local.Let x a b) = clean.Variable 0
plain (local.Free x t) = clean.Variable 0
plain (local.Or a b) = clean.Variable 0
plain (local.Case m t local.NoAlternative) = clean.Variable 0
plain (local.Case m t (local.MoreAlternatives p s local.NoAlternative)) = clean.Variable 0
plain (local.Case m t (local.MoreAlternatives p s (local.MoreAlternatives q u rows))) =
    clean.Case m (plain t) (clean.MoreAlternatives p (plain s) (clean.MoreAlternatives q (plain u) clean.NoAlternative))

abbrev plain_rule : LocalRule → calculus.Rule
plain_rule rule = record { params = rule.params; body = plain rule.body }

variable_whole : (x : Option ℕ) (t : LocalTerm) → same_variable x (local_variable t) ≡ true → unlifted (plain t) ≡ t
variable_whole x (local.Variable y) h = refl
variable_whole (Some x) _ h = let absent : ⊥ = cc in absurd absent
variable_whole None _ h = let absent : ⊥ = cc in absurd absent

no_terms : (ts : LocalTerms) → nat_eq (term_count ts) 0 ≡ true → local.NoTerm ≡ ts
no_terms local.NoTerm h = refl
no_terms (local.MoreTerms t ts) h = let e = eqb-true (term_count ts + 1) 0 h in absurd (omega (arith, e))

constant_whole : (c : ConId) (t : LocalTerm) → is_local_constant c t ≡ true → unlifted (plain t) ≡ t
constant_whole c (local.Whole (head.Global h) ts) so =
    let both = parts_true (nat_eq (term_count ts) 0) (is_local_head c (head.Global h)) so in
    ap (local.Whole (head.Global h)) (no_terms ts both.0)
constant_whole c (local.Whole (head.Local k) ts) so =
    let both = parts_true (nat_eq (term_count ts) 0) false so in let never : false ≡ true = both.1 in let absent : ⊥ = cc in absurd absent
constant_whole c _ so = let absent : ⊥ = cc in absurd absent

distinction_whole : (special : Special) (x y : Option ℕ) (t : LocalTerm) → is_local_distinction special x y t ≡ true → unlifted (plain t) ≡ t
distinction_whole special x y (local.Case m t (local.MoreAlternatives p s (local.MoreAlternatives q u local.NoAlternative))) so =
    let scrutinee = same_variable x (local_variable t) in
    let a = is_constant_pattern special.falsity p in let b = is_local_constant special.falsity s in
    let d = is_constant_pattern special.truth q in let e = same_variable y (local_variable u) in
    let both = parts_true (is_flex m && scrutinee) (a && b && d && e) so in
    let first = parts_true (is_flex m) scrutinee both.0 in
    let last = parts_true (a && b && d) e both.1 in
    let three = parts_true (a && b) d last.0 in
    let two = parts_true a b three.0 in
    let one_t = variable_whole x t first.1 in let one_s = constant_whole special.falsity s two.1 in let one_u = variable_whole y u last.1 in
    ap (λ w. local.Case m w (local.MoreAlternatives p (unlifted (plain s)) (local.MoreAlternatives q (unlifted (plain u)) local.NoAlternative))) one_t
    ∙ ap (λ w. local.Case m t (local.MoreAlternatives p w (local.MoreAlternatives q (unlifted (plain u)) local.NoAlternative))) one_s
    ∙ ap (λ w. local.Case m t (local.MoreAlternatives p s (local.MoreAlternatives q w local.NoAlternative))) one_u
distinction_whole special x y (local.Case m t local.NoAlternative) so =
    let both = parts_true (is_flex m && same_variable x (local_variable t)) false so in
    let never : false ≡ true = both.1 in let absent : ⊥ = cc in absurd absent
distinction_whole special x y (local.Case m t (local.MoreAlternatives p s local.NoAlternative)) so =
    let both = parts_true (is_flex m && same_variable x (local_variable t)) false so in
    let never : false ≡ true = both.1 in let absent : ⊥ = cc in absurd absent
distinction_whole special x y (local.Case m t (local.MoreAlternatives p s (local.MoreAlternatives q u (local.MoreAlternatives r w rows)))) so =
    let both = parts_true (is_flex m && same_variable x (local_variable t)) false so in
    let never : false ≡ true = both.1 in let absent : ⊥ = cc in absurd absent
distinction_whole special x y _ so = let absent : ⊥ = cc in absurd absent

true_whole : (special : Special) (t : LocalTerm) (ps : clean.Patterns) → is_local_true special t ps ≡ true → unlifted (plain t) ≡ t
true_whole special t (clean.MorePatterns p (clean.MorePatterns q clean.NoPattern)) so =
    variable_whole (pattern_variable q) t (parts_true (is_constant_pattern special.truth p) (same_variable (pattern_variable q) (local_variable t)) so).1
true_whole special t clean.NoPattern so = let absent : ⊥ = cc in absurd absent
true_whole special t (clean.MorePatterns p clean.NoPattern) so = let absent : ⊥ = cc in absurd absent
true_whole special t (clean.MorePatterns p (clean.MorePatterns q (clean.MorePatterns r ps))) so = let absent : ⊥ = cc in absurd absent

false_whole : (special : Special) (t : LocalTerm) (ps : clean.Patterns) → is_local_false special t ps ≡ true → unlifted (plain t) ≡ t
false_whole special t (clean.MorePatterns p (clean.MorePatterns q clean.NoPattern)) so =
    constant_whole special.falsity t
    (parts_true (is_constant_pattern special.falsity p && is_variable (pattern_variable q)) (is_local_constant special.falsity t) so).1
false_whole special t clean.NoPattern so = let absent : ⊥ = cc in absurd absent
false_whole special t (clean.MorePatterns p clean.NoPattern) so = let absent : ⊥ = cc in absurd absent
false_whole special t (clean.MorePatterns p (clean.MorePatterns q (clean.MorePatterns r ps))) so = let absent : ⊥ = cc in absurd absent

case_whole : (special : Special) (t : LocalTerm) (ps : clean.Patterns) → is_local_case special t ps ≡ true → unlifted (plain t) ≡ t
case_whole special t (clean.MorePatterns p (clean.MorePatterns q clean.NoPattern)) so =
    let x = pattern_variable p in let y = pattern_variable q in
    distinction_whole special x y t (parts_true (different_variables x y) (is_local_distinction special x y t) so).1
case_whole special t clean.NoPattern so = let absent : ⊥ = cc in absurd absent
case_whole special t (clean.MorePatterns p clean.NoPattern) so = let absent : ⊥ = cc in absurd absent
case_whole special t (clean.MorePatterns p (clean.MorePatterns q (clean.MorePatterns r ps))) so = let absent : ⊥ = cc in absurd absent

whole_rule : (rule : LocalRule) → unlifted (plain rule.body) ≡ rule.body → rule_unlifted (plain_rule rule) ≡ rule
whole_rule rule same = λ i. record { params = rule.params; body = same i }

rules_whole : (special : Special) (rules : List LocalRule) → are_local_rules special rules ≡ true → map rule_unlifted (map plain_rule rules) ≡ rules
rules_whole special [] so = let absent : ⊥ = cc in absurd absent
rules_whole special (r ∷ []) so = ap (λ x. x ∷ []) (whole_rule r (case_whole special r.body r.params so))
rules_whole special (r ∷ s ∷ []) so =
    let both = parts_true (is_local_true special r.body r.params) (is_local_false special s.body s.params) so in
    ap (λ x. x ∷ rule_unlifted (plain_rule s) ∷ []) (whole_rule r (true_whole special r.body r.params both.0))
    ∙ ap (λ x. r ∷ x ∷ []) (whole_rule s (false_whole special s.body s.params both.1))
rules_whole special (r ∷ s ∷ t ∷ rest) so = let absent : ⊥ = cc in absurd absent

-- ---- the operation

body_is : (special : Special) (body : LocalBody) → is_local_conjunction special body ≡ true
    → (rules : List calculus.Rule) × (body ≡ Rules (map rule_unlifted rules)) × valid.IsConjunction special (calculus.Rules rules)
body_is special (Rules rules) so =
    let whole = rules_whole special rules so in
    let plain_rules = map plain_rule rules in (
      plain_rules,
      ap Rules (sym whole),
      conjunction_is special (calculus.Rules plain_rules) (sym (same_rules special plain_rules) ∙ ap (are_local_rules special) whole ∙ so),
    )
body_is special (External operation) so = let absent : ⊥ = cc in absurd absent

pub both_is : (special : Special) (found : Option TopFunction) → is_local_both special found ≡ true
    → (f : TopFunction) × (found ≡ Some f) × IsBoth special f
both_is special None so = let absent : ⊥ = cc in absurd absent
both_is special (Some f) so =
    let both = parts_true (nat_eq f.arity 2) (is_local_conjunction special f.body) so in
    let body = body_is special f.body both.1 in
    (f, refl, record { arity = eqb-true f.arity 2 both.0; rules = body.0; body = body.1; conjunction = body.2 })

pub is_the_both : (special : Special) (found : Option TopFunction) (f : TopFunction) → found ≡ Some f → IsBoth special f
    → is_local_both special found ≡ true
is_the_both special found f is both =
    ap (is_local_both special) is
    ∙ true_parts (nat_eq f.arity 2) (is_local_conjunction special f.body) (eq-eqb f.arity 2 both.arity)
    (ap (is_local_conjunction special) both.body ∙ same_rules special both.rules
    ∙ is_the_conjunction special (calculus.Rules both.rules) both.conjunction)
