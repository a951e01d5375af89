-- The tests on `&&` decide whether its body is the one that it has to have.
use Rattle.std.proofs.Common.{◌≡◌, ◌≢◌, ℕ, ◌+◌, Bool, true, false, not, ◌&&◌, List, [], ◌∷◌, Option, None, Some, nat_eq, arith, refl, sym, ◌∙◌, ap}
use Rattle.std.proofs.lemmas.Bool.{eq-eqb, eqb-false, eqb-true, ne_eqb}
use Rattle.cu_calculus.specs.Program as calculus
use Rattle.cu_calculus.specs.Term as clean
use Rattle.cu_calculus.specs.Valid.{IsConjunction, by_case, by_rules, pattern_count, term_count}
use Rattle.cu_calculus.specs.declared.ConId.{ConId}
use Rattle.cu_calculus.specs.declared.Head.TheVariants as head
use Rattle.cu_calculus.specs.declared.Head.{Head}
use Rattle.cu_calculus.specs.declared.Mode.TheVariants as mode
use Rattle.cu_calculus.specs.declared.Mode.{Mode}
use Rattle.cu_calculus.specs.declared.builtin.Special.{Special}
use Rattle.cu_kernel.specs.Tests.{are_branches, are_conjunction_rules, different_variables, is_case_params, is_conjunction, is_constant_head, is_constant_pattern, is_constant_term, is_distinction, is_false_params, is_false_rule, is_flex, is_true_params, is_true_rule, is_variable, pattern_variable, same_variable, term_variable}

-- both parts of a conjunction that is true
pub parts_true : (a b : Bool) → (a && b) ≡ true → (a ≡ true) × (b ≡ true)
parts_true true b both = (refl, both)
parts_true false b both = let bad : ⊥ = cc in absurd bad

pub true_parts : (a b : Bool) → a ≡ true → b ≡ true → (a && b) ≡ true
true_parts a b first second = ap (λ x. x && b) first ∙ second

same_constructor : (c d : ConId) → nat_eq c.0 d.0 ≡ true → c ≡ d
same_constructor c d same = let e = eqb-true c.0 d.0 same in λ i. record { 0 = e i }

no_patterns : (ps : clean.Patterns) → nat_eq (pattern_count ps) 0 ≡ true → ps ≡ clean.NoPattern
no_patterns clean.NoPattern none = refl
no_patterns (clean.MorePatterns p ps) none = let e = eqb-true (pattern_count ps + 1) 0 none in absurd (omega (arith, e))

no_terms : (ts : clean.Terms) → nat_eq (term_count ts) 0 ≡ true → ts ≡ clean.NoTerm
no_terms clean.NoTerm none = refl
no_terms (clean.MoreTerms t ts) none = let e = eqb-true (term_count ts + 1) 0 none in absurd (omega (arith, e))

constant_pattern : (c : ConId) (p : clean.Pattern) → is_constant_pattern c p ≡ true → p ≡ clean.Built c clean.NoPattern
constant_pattern c (clean.Built d ps) so =
    let both = parts_true (nat_eq (pattern_count ps) 0) (nat_eq c.0 d.0) so in
    let none : ps ≡ clean.NoPattern = no_patterns ps both.0 in let same : c ≡ d = same_constructor c d both.1 in cc
constant_pattern c _ so = let bad : ⊥ = cc in absurd bad

constant_head : (c : ConId) (h : Head) → is_constant_head c h ≡ true → h ≡ head.Con c
constant_head c (head.Con d) so = ap head.Con (sym (same_constructor c d so))
constant_head c _ so = let bad : ⊥ = cc in absurd bad

constant_term : (c : ConId) (t : clean.Term) → is_constant_term c t ≡ true → t ≡ clean.Whole (head.Con c) clean.NoTerm
constant_term c (clean.Whole h ts) so =
    let both = parts_true (nat_eq (term_count ts) 0) (is_constant_head c h) so in
    let none : ts ≡ clean.NoTerm = no_terms ts both.0 in let same : h ≡ head.Con c = constant_head c h both.1 in cc
constant_term c _ so = let bad : ⊥ = cc in absurd bad

pattern_is : (p : clean.Pattern) (x : ℕ) → pattern_variable p ≡ Some x → p ≡ clean.Any x
pattern_is (clean.Any y) x is = cc
pattern_is _ x is = let bad : ⊥ = cc in absurd bad

term_is : (t : clean.Term) (x : ℕ) → term_variable t ≡ Some x → t ≡ clean.Variable x
term_is (clean.Variable y) x is = cc
term_is _ x is = let bad : ⊥ = cc in absurd bad

same_is : (a b : Option ℕ) → same_variable a b ≡ true → (x : ℕ) × (a ≡ Some x) × (b ≡ Some x)
same_is (Some x) (Some y) same = let e : x ≡ y = eqb-true x y same in (x, refl, ap Some (sym e))
same_is _ _ same = let bad : ⊥ = cc in absurd bad

not_true : (b : Bool) → not b ≡ true → b ≡ false
not_true false is = refl
not_true true is = let bad : ⊥ = cc in absurd bad

different_are : (a b : Option ℕ) → different_variables a b ≡ true → (x y : ℕ) × (a ≡ Some x) × (b ≡ Some y) × (x ≢ y)
different_are (Some x) (Some y) differ = (x, y, refl, refl, eqb-false x y (not_true (nat_eq x y) differ))
different_are _ _ differ = let bad : ⊥ = cc in absurd bad

variable_is : (a : Option ℕ) → is_variable a ≡ true → (x : ℕ) × (a ≡ Some x)
variable_is (Some x) is = (x, refl)
variable_is None is = let bad : ⊥ = cc in absurd bad

flex_is : (m : Mode) → is_flex m ≡ true → m ≡ mode.Flex
flex_is mode.Flex is = refl
flex_is mode.Rigid is = let bad : ⊥ = cc in absurd bad

true_params : (special : Special) (body : clean.Term) (ps : clean.Patterns) → is_true_params special body ps ≡ true
    → (x : ℕ) × (ps ≡ clean.MorePatterns (clean.Built special.truth clean.NoPattern) (clean.MorePatterns (clean.Any x) clean.NoPattern))
    × (body ≡ clean.Variable x)
true_params special body (clean.MorePatterns p (clean.MorePatterns q clean.NoPattern)) so =
    let both = parts_true (is_constant_pattern special.truth p) (same_variable (pattern_variable q) (term_variable body)) so in
    let first = constant_pattern special.truth p both.0 in let same = same_is (pattern_variable q) (term_variable body) both.1 in
    let second = pattern_is q same.0 same.1 in
    (same.0, (λ i. clean.MorePatterns (first i) (clean.MorePatterns (second i) clean.NoPattern)), term_is body same.0 same.2)
true_params special body _ so = let bad : ⊥ = cc in absurd bad

false_params : (special : Special) (body : clean.Term) (ps : clean.Patterns) → is_false_params special body ps ≡ true
    → (x : ℕ) × (ps ≡ clean.MorePatterns (clean.Built special.falsity clean.NoPattern) (clean.MorePatterns (clean.Any x) clean.NoPattern))
    × (body ≡ clean.Whole (head.Con special.falsity) clean.NoTerm)
false_params special body (clean.MorePatterns p (clean.MorePatterns q clean.NoPattern)) so =
    let all = parts_true (is_constant_pattern special.falsity p && is_variable (pattern_variable q)) (is_constant_term special.falsity body) so in
    let both = parts_true (is_constant_pattern special.falsity p) (is_variable (pattern_variable q)) all.0 in
    let first = constant_pattern special.falsity p both.0 in let some = variable_is (pattern_variable q) both.1 in
    let second = pattern_is q some.0 some.1 in
    (some.0, (λ i. clean.MorePatterns (first i) (clean.MorePatterns (second i) clean.NoPattern)), constant_term special.falsity body all.1)
false_params special body _ so = let bad : ⊥ = cc in absurd bad

branches_are : (special : Special) (a : Option ℕ) (y : ℕ) (rows : clean.Alternatives) → a ≡ Some y → are_branches special a rows ≡ true
    → rows ≡ clean.MoreAlternatives (clean.Built special.falsity clean.NoPattern) (clean.Whole (head.Con special.falsity) clean.NoTerm)
    (clean.MoreAlternatives (clean.Built special.truth clean.NoPattern) (clean.Variable y) clean.NoAlternative)
branches_are special a y (clean.MoreAlternatives p s (clean.MoreAlternatives q t clean.NoAlternative)) is so =
    let all = parts_true (is_constant_pattern special.falsity p && is_constant_term special.falsity s && is_constant_pattern special.truth q)
    (same_variable a (term_variable t)) so in
    let three = parts_true (is_constant_pattern special.falsity p && is_constant_term special.falsity s) (is_constant_pattern special.truth q) all.0 in
    let two = parts_true (is_constant_pattern special.falsity p) (is_constant_term special.falsity s) three.0 in
    let same = same_is a (term_variable t) all.1 in let which : same.0 ≡ y = cc in
    let e1 = constant_pattern special.falsity p two.0 in let e2 = constant_term special.falsity s two.1 in
    let e3 = constant_pattern special.truth q three.1 in let e4 = term_is t same.0 same.2 ∙ ap clean.Variable which in
    λ i. clean.MoreAlternatives (e1 i) (e2 i) (clean.MoreAlternatives (e3 i) (e4 i) clean.NoAlternative)
branches_are special a y _ is so = let bad : ⊥ = cc in absurd bad

distinction_is : (special : Special) (a b : Option ℕ) (x y : ℕ) (t : clean.Term) → a ≡ Some x → b ≡ Some y → is_distinction special a b t ≡ true
    → t ≡ clean.Case mode.Flex (clean.Variable x)
    (clean.MoreAlternatives (clean.Built special.falsity clean.NoPattern) (clean.Whole (head.Con special.falsity) clean.NoTerm)
    (clean.MoreAlternatives (clean.Built special.truth clean.NoPattern) (clean.Variable y) clean.NoAlternative))
distinction_is special a b x y (clean.Case m t rows) first second so =
    let all = parts_true (is_flex m && same_variable a (term_variable t)) (are_branches special b rows) so in
    let two = parts_true (is_flex m) (same_variable a (term_variable t)) all.0 in
    let same = same_is a (term_variable t) two.1 in let which : same.0 ≡ x = cc in
    let e1 = flex_is m two.0 in let e2 = term_is t same.0 same.2 ∙ ap clean.Variable which in
    let e3 = branches_are special b y rows second all.1 in
    λ i. clean.Case (e1 i) (e2 i) (e3 i)
distinction_is special a b x y _ first second so = let bad : ⊥ = cc in absurd bad

case_params : (special : Special) (body : clean.Term) (ps : clean.Patterns) → is_case_params special body ps ≡ true
    → (x y : ℕ) × (x ≢ y) × (ps ≡ clean.MorePatterns (clean.Any x) (clean.MorePatterns (clean.Any y) clean.NoPattern))
    × (body ≡ clean.Case mode.Flex (clean.Variable x)
    (clean.MoreAlternatives (clean.Built special.falsity clean.NoPattern) (clean.Whole (head.Con special.falsity) clean.NoTerm)
    (clean.MoreAlternatives (clean.Built special.truth clean.NoPattern) (clean.Variable y) clean.NoAlternative)))
case_params special body (clean.MorePatterns p (clean.MorePatterns q clean.NoPattern)) so =
    let both = parts_true (different_variables (pattern_variable p) (pattern_variable q))
    (is_distinction special (pattern_variable p) (pattern_variable q) body) so in
    let two = different_are (pattern_variable p) (pattern_variable q) both.0 in
    let first = pattern_is p two.0 two.2 in let second = pattern_is q two.1 two.3 in (
      two.0,
      two.1,
      two.4,
      (λ i. clean.MorePatterns (first i) (clean.MorePatterns (second i) clean.NoPattern)),
      distinction_is special (pattern_variable p) (pattern_variable q) two.0 two.1 body two.2 two.3 both.1,
    )
case_params special body _ so = let bad : ⊥ = cc in absurd bad

rules_are : (special : Special) (rules : List calculus.Rule) → are_conjunction_rules special rules ≡ true → IsConjunction special (calculus.Rules rules)
rules_are special [] so = let bad : ⊥ = cc in absurd bad
rules_are special (r ∷ []) so =
    let is = case_params special r.body r.params so in
    by_case (calculus.Rules (r ∷ [])) is.0 is.1 is.2 (λ i. calculus.Rules (record { params = is.3 i; body = is.4 i } ∷ []))
rules_are special (r ∷ s ∷ []) so =
    let both = parts_true (is_true_rule special r) (is_false_rule special s) so in
    let first = true_params special r.body r.params both.0 in let second = false_params special s.body s.params both.1 in
    by_rules (calculus.Rules (r ∷ s ∷ [])) first.0 second.0
    (λ i. calculus.Rules (record { params = first.1 i; body = first.2 i } ∷ record { params = second.1 i; body = second.2 i } ∷ []))
rules_are special (r ∷ s ∷ t ∷ rest) so = let bad : ⊥ = cc in absurd bad

pub conjunction_is : (special : Special) (body : calculus.Body) → is_conjunction special body ≡ true → IsConjunction special body
conjunction_is special (calculus.Rules rules) so = rules_are special rules so
conjunction_is special (calculus.External operation) so = let bad : ⊥ = cc in absurd bad

self : (n : ℕ) → nat_eq n n ≡ true
self n = eq-eqb n n refl

pub is_the_conjunction : (special : Special) (body : calculus.Body) → IsConjunction special body → is_conjunction special body ≡ true
is_the_conjunction special body (by_rules b x y is) =
    rw (is, self special.truth.0, self x, self special.falsity.0) refl
is_the_conjunction special body (by_case b x y differ is) =
    rw (is, ne_eqb x y differ, self x, self special.falsity.0, self special.truth.0, self y) refl
