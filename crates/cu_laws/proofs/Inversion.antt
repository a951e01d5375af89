-- What derivations on terms of a known form say.
use Rattle.std.proofs.Common.{◌≡◌, ◌≢◌, ℕ, zero, suc, ◌⊎◌, inl, inr, Bool, true, false, if◌then◌else◌, List, [], ◌∷◌, ◌++◌, Option, None, Some, refl, ap, sym, ◌∙◌, subst, nat_eq, slice_get, eqb-true, eq-eqb}
use Rattle.cu_calculus.specs.declared.ConId.{ConId}
use Rattle.cu_calculus.specs.declared.FunId.{FunId}
use Rattle.cu_calculus.specs.declared.Head.{Head}
use Rattle.cu_calculus.specs.declared.Head.TheVariants as head
use Rattle.cu_calculus.specs.declared.Mode.{Mode}
use Rattle.cu_calculus.specs.declared.Mode.TheVariants.{Flex}
use Rattle.cu_calculus.specs.Below as below
use Rattle.cu_calculus.specs.Below.{Below}
use Rattle.cu_calculus.specs.Builtin.{truth_of}
use Rattle.cu_calculus.specs.Choose.{Selects, alternative_at}
use Rattle.cu_calculus.specs.Gives as gives
use Rattle.cu_calculus.specs.Gives.{AllGive, Applied, Claim, Gives}
use Rattle.cu_calculus.specs.Match.{Bindings, Environment, all_matched, bind, bind_all, both, empty, matched, same_constructor}
use Rattle.cu_calculus.specs.Program.{Body, External, Function, Program, Rule, Rules, function_of}
use Rattle.cu_calculus.specs.Term as term
use Rattle.cu_calculus.specs.Term.{Alternatives, Pattern, Patterns, Term, Terms}
use Rattle.cu_calculus.specs.Valid as valid
use Rattle.cu_calculus.specs.Valid.{HasSpecial, IsConjunction}
use Rattle.cu_calculus.specs.Value as value
use Rattle.cu_calculus.specs.Value.{Value, Values}
use Rattle.cu_calculus.proofs.BelowLaws.{below_itself}
use Rattle.cu_calculus.proofs.Comparing.{same_is}
use Rattle.cu_laws.proofs.Heads.{constructed_is}
use Rattle.cu_laws.proofs.Rising.{total_above}

-- ---- terms

pub variable_gives : (program : Program) (claims : List Claim) (env : Environment) (t : Term) (v : Value) → Gives program claims env t v → (x : ℕ) → t ≡ term.Variable x
    → Below v (env x)
variable_gives program claims env _ _ (gives.bottom _ t) x is = below.bottom (env x)
variable_gives program claims env _ v (gives.variable _ y _ low) x is = let same : y ≡ x = cc in subst (λ (z : ℕ). Below v (env z)) same low
variable_gives program claims env _ v _ x is = let no : ⊥ = cc in absurd no

all_give_none : (program : Program) (claims : List Claim) (env : Environment) (ts : Terms) (us : Values) → AllGive program claims env ts us → ts ≡ term.NoTerm
    → us ≡ value.NoValue
all_give_none program claims env _ _ (gives.none _) is = refl
all_give_none program claims env _ _ (gives.more _ t ts v vs p ps) is = let no : ⊥ = cc in absurd no

pub constant_gives : (program : Program) (claims : List Claim) (env : Environment) (t : Term) (v : Value) → Gives program claims env t v → (c : ConId)
    → t ≡ term.Whole (head.Con c) term.NoTerm → Below v (value.Constructed c value.NoValue)
constant_gives program claims env _ _ (gives.bottom _ t) c is = below.bottom (value.Constructed c value.NoValue)
constant_gives program claims env _ v (gives.whole _ h ts us _ ps app) c is =
    let heads : h ≡ head.Con c = cc in
    let none : ts ≡ term.NoTerm = cc in
    let whole : v ≡ value.Constructed c us = constructed_is program claims h us v app c heads in
    let arguments : us ≡ value.NoValue = all_give_none program claims env ts us ps none in
    subst (λ (x : Value). Below v x) (whole ∙ ap (value.Constructed c) arguments) (below_itself v)
constant_gives program claims env _ v _ c is = let no : ⊥ = cc in absurd no

pub record CaseGives (program : Program) (claims : List Claim) (env : Environment) (a : Term) (alternatives : Alternatives) (v : Value) : Type 0 where
  pub scrutinee : Value
  pub term : Term
  pub bindings : Bindings
  pub given : Gives program claims env a scrutinee
  pub selects : Selects program alternatives scrutinee term bindings
  pub gives : Gives program claims (bind_all env bindings) term v

pub case_gives : (program : Program) (claims : List Claim) (env : Environment) (t : Term) (v : Value) → Gives program claims env t v
    → (mode : Mode) (a : Term) (alternatives : Alternatives) → t ≡ term.Case mode a alternatives → (v ≡ value.Bottom) ⊎ CaseGives program claims env a alternatives v
case_gives program claims env _ _ (gives.bottom _ t) mode a alternatives is = inl refl
case_gives program claims env _ v (gives.chosen _ other b t arms bindings u _ p selects q) mode a alternatives is =
    let terms : b ≡ a = cc in
    let alike : arms ≡ alternatives = cc in
    inr (record {
      scrutinee = u;
      term = t;
      bindings = bindings;
      given = subst (λ (x : Term). Gives program claims env x u) terms p;
      selects = subst (λ (x : Alternatives). Selects program x u t bindings) alike selects;
      gives = q;
    })
case_gives program claims env _ v _ mode a alternatives is = let no : ⊥ = cc in absurd no

-- ---- functions

pub record RuleGives (program : Program) (claims : List Claim) (rules : List Rule) (us : Values) (v : Value) : Type 0 where
  pub place : ℕ
  pub rule : Rule
  pub bindings : Bindings
  pub at : slice_get rules place ≡ Some rule
  pub matches : all_matched rule.params us ≡ Some bindings
  pub gives : Gives program claims (bind_all empty bindings) rule.body v

-- a function with rules has a value by one of them
pub function_gives : (program : Program) (claims : List Claim) (h : Head) (us : Values) (v : Value) → Applied program claims h us v → (f : FunId) (function : Function)
    (rules : List Rule) → h ≡ head.Fun f → function_of program f ≡ Some function → function.body ≡ Rules rules → RuleGives program claims rules us v
function_gives program claims _ us _ (gives.constructed c _) f function rules is there body_is = let no : ⊥ = cc in absurd no
function_gives program claims _ us v (gives.by_rule g other more k rule bindings _ _ e b r m given) f function rules is there body_is =
    let same : g ≡ f = cc in
    let found : Some other ≡ Some function = sym (subst (λ (x : FunId). function_of program x ≡ Some other) same e) ∙ there in
    let functions : other ≡ function = cc in
    let bodies : Rules more ≡ Rules rules = sym b ∙ ap (λ (x : Function). x.body) functions ∙ body_is in
    let all : more ≡ rules = cc in
    record {
      place = k;
      rule = rule;
      bindings = bindings;
      at = subst (λ (x : List Rule). slice_get x k ≡ Some rule) all r;
      matches = m;
      gives = given;
    }
function_gives program claims _ us v (gives.builtin g other operation _ _ e b answers) f function rules is there body_is =
    let same : g ≡ f = cc in
    let found : Some other ≡ Some function = sym (subst (λ (x : FunId). function_of program x ≡ Some other) same e) ∙ there in
    let functions : other ≡ function = cc in
    let bodies : External operation ≡ Rules rules = sym b ∙ ap (λ (x : Function). x.body) functions ∙ body_is in
    let no : ⊥ = cc in
    absurd no
function_gives program claims _ us v (gives.collect g claim k c _ _ ground e f' a s low) f function rules is there body_is = let no : ⊥ = cc in absurd no

-- ---- patterns

-- a constructor without arguments
pub constant_matches : (c : ConId) (u : Value) (bindings : Bindings) → matched (term.Built c term.NoPattern) u ≡ Some bindings
    → (u ≡ value.Constructed c value.NoValue) × (bindings ≡ [])
constant_matches c (value.Constructed d value.NoValue) bindings is = go (same_constructor c d) refl is
  where
    go : (b : Bool) → same_constructor c d ≡ b → (if b then Some [] else None) ≡ Some bindings
        → (value.Constructed d value.NoValue ≡ value.Constructed c value.NoValue) × (bindings ≡ [])
    go true same e = let none : [] ≡ bindings = cc in (ap (λ (x : ConId). value.Constructed x value.NoValue) (sym (same_is c d same)), sym none)
    go false differ e = let no : ⊥ = cc in absurd no
constant_matches c (value.Constructed d (value.MoreValues v vs)) bindings is = go (same_constructor c d) is
  where
    go : (b : Bool) → (if b then None else None) ≡ Some bindings
        → (value.Constructed d (value.MoreValues v vs) ≡ value.Constructed c value.NoValue) × (bindings ≡ [])
    go true e = let no : ⊥ = cc in absurd no
    go false e = let no : ⊥ = cc in absurd no
constant_matches c _ bindings is = let no : ⊥ = cc in absurd no

-- two values matched by a constructor without arguments and by a variable
pub pair_matches : (c : ConId) (y : ℕ) (a b : Value) (bindings : Bindings)
    → all_matched (term.MorePatterns (term.Built c term.NoPattern) (term.MorePatterns (term.Any y) term.NoPattern)) (value.MoreValues a (value.MoreValues b value.NoValue)) ≡ Some bindings
    → (a ≡ value.Constructed c value.NoValue) × (bindings ≡ (y, b) ∷ [])
pair_matches c y a b bindings is = go (matched (term.Built c term.NoPattern) a) refl is
  where
    go : (found : Option Bindings) → matched (term.Built c term.NoPattern) a ≡ found → both found (Some ((y, b) ∷ [])) ≡ Some bindings
        → (a ≡ value.Constructed c value.NoValue) × (bindings ≡ (y, b) ∷ [])
    go None at e = let no : ⊥ = cc in absurd no
    go (Some first) at e =
        let constant = constant_matches c a first at in
        let whole : first ++ (y, b) ∷ [] ≡ bindings = some_bindings (first ++ (y, b) ∷ []) bindings e in
        (constant.0, sym whole ∙ ap (λ (xs : Bindings). xs ++ (y, b) ∷ []) constant.1)
      where
        some_bindings : (xs ys : Bindings) → Some xs ≡ Some ys → xs ≡ ys
        some_bindings xs ys same = cc

-- ---- the conjunction `&&`

-- what `&&` gives on two values: False where the first is False, and at most the second where the
-- first is True
abbrev pub ConjunctionGives : Program → Value → Value → Value → Type 0
ConjunctionGives program a b v =
    (v ≡ value.Bottom) ⊎ (((a ≡ truth_of program false) × Below v (truth_of program false)) ⊎ ((a ≡ truth_of program true) × Below v b))

pub bound_last : (x : ℕ) (u : Value) (env : Environment) → bind env x u x ≡ u
bound_last x u env = ap (λ (b : Bool). if b then u else env x) (eq-eqb x x refl)

two_rules : (first second : Rule) (k : ℕ) (rule : Rule) → slice_get (first ∷ second ∷ []) k ≡ Some rule → (rule ≡ first) ⊎ (rule ≡ second)
two_rules first second zero rule is = let same : first ≡ rule = cc in inl (sym same)
two_rules first second (suc zero) rule is = let same : second ≡ rule = cc in inr (sym same)
two_rules first second (suc (suc k)) rule is = let no : ⊥ = cc in absurd no

by_rules_give : (program : Program) (claims : List Claim) (x y : ℕ) (a b v : Value) (bindings : Bindings) (rule first second : Rule)
    → first ≡ record {
      params = term.MorePatterns (term.Built program.special.truth term.NoPattern) (term.MorePatterns (term.Any x) term.NoPattern);
      body = term.Variable x;
    } → second ≡ record {
      params = term.MorePatterns (term.Built program.special.falsity term.NoPattern) (term.MorePatterns (term.Any y) term.NoPattern);
      body = term.Whole (head.Con program.special.falsity) term.NoTerm;
    } → (rule ≡ first) ⊎ (rule ≡ second) → all_matched rule.params (value.MoreValues a (value.MoreValues b value.NoValue)) ≡ Some bindings
    → Gives program claims (bind_all empty bindings) rule.body v → ConjunctionGives program a b v
by_rules_give program claims x y a b v bindings rule first second one two (inl is) matches given =
    let rule_is = is ∙ one in
    let found = pair_matches program.special.truth x a b bindings (subst (λ (r : Rule). all_matched r.params (value.MoreValues a (value.MoreValues b value.NoValue)) ≡ Some bindings) rule_is matches) in
    let body : Gives program claims (bind_all empty bindings) (term.Variable x) v = subst (λ (r : Rule). Gives program claims (bind_all empty bindings) r.body v) rule_is given in
    let low = variable_gives program claims (bind_all empty bindings) (term.Variable x) v body x refl in
    let value_is : bind_all empty bindings x ≡ b = ap (λ (xs : Bindings). bind_all empty xs x) found.1 ∙ bound_last x b empty in
    inr (inr (found.0, subst (λ (u : Value). Below v u) value_is low))
by_rules_give program claims x y a b v bindings rule first second one two (inr is) matches given =
    let rule_is = is ∙ two in
    let found = pair_matches program.special.falsity y a b bindings (subst (λ (r : Rule). all_matched r.params (value.MoreValues a (value.MoreValues b value.NoValue)) ≡ Some bindings) rule_is matches) in
    let body : Gives program claims (bind_all empty bindings) (term.Whole (head.Con program.special.falsity) term.NoTerm) v =
    subst (λ (r : Rule). Gives program claims (bind_all empty bindings) r.body v) rule_is given in
    inr (inl (found.0, constant_gives program claims (bind_all empty bindings) _ v body program.special.falsity refl))

two_arms : (p q : Pattern) (s t : Term) (k : ℕ) (pattern : Pattern) (u : Term)
    → alternative_at (term.MoreAlternatives p s (term.MoreAlternatives q t term.NoAlternative)) k ≡ Some (pattern, u)
    → ((pattern ≡ p) × (u ≡ s)) ⊎ ((pattern ≡ q) × (u ≡ t))
two_arms p q s t zero pattern u is =
    let same : (p, s) ≡ (pattern, u) = some_pair (p, s) (pattern, u) is in inl (sym (ap (λ (z : Pattern × Term). z.0) same), sym (ap (λ (z : Pattern × Term). z.1) same))
  where
    some_pair : (a b : Pattern × Term) → Some a ≡ Some b → a ≡ b
    some_pair a b same = cc
two_arms p q s t (suc zero) pattern u is =
    let same : (q, t) ≡ (pattern, u) = some_pair (q, t) (pattern, u) is in inr (sym (ap (λ (z : Pattern × Term). z.0) same), sym (ap (λ (z : Pattern × Term). z.1) same))
  where
    some_pair : (a b : Pattern × Term) → Some a ≡ Some b → a ≡ b
    some_pair a b same = cc
two_arms p q s t (suc (suc k)) pattern u is = let no : ⊥ = cc in absurd no

-- a value above True or False is that value
above_constant : (c : ConId) (u w : Value) → u ≡ value.Constructed c value.NoValue → Below u w → w ≡ value.Constructed c value.NoValue
above_constant c u w is low = sym (total_above (value.Constructed c value.NoValue) w (subst (λ (x : Value). Below x w) is low) refl)

by_case_gives : (program : Program) (claims : List Claim) (x y : ℕ) (a b v : Value) → x ≢ y
    → CaseGives program claims (bind_all empty ((x, a) ∷ (y, b) ∷ [])) (term.Variable x)
    (term.MoreAlternatives (term.Built program.special.falsity term.NoPattern) (term.Whole (head.Con program.special.falsity) term.NoTerm)
    (term.MoreAlternatives (term.Built program.special.truth term.NoPattern) (term.Variable y) term.NoAlternative)) v
    → ConjunctionGives program a b v
by_case_gives program claims x y a b v differ found =
    let env = bind_all empty ((x, a) ∷ (y, b) ∷ []) in
    let at_x : env x ≡ a = bound_last x a (bind_all empty ((y, b) ∷ [])) in
    let low : Below found.scrutinee a = subst (λ (w : Value). Below found.scrutinee w) at_x (variable_gives program claims env (term.Variable x) found.scrutinee found.given x refl) in
    go low (two_arms _ _ _ _ found.selects.choice found.selects.pattern found.term found.selects.at)
  where
    go : Below found.scrutinee a
        → ((found.selects.pattern ≡ term.Built program.special.falsity term.NoPattern) × (found.term ≡ term.Whole (head.Con program.special.falsity) term.NoTerm))
        ⊎ ((found.selects.pattern ≡ term.Built program.special.truth term.NoPattern) × (found.term ≡ term.Variable y)) → ConjunctionGives program a b v
    go low (inl arm) =
        let env = bind_all empty ((x, a) ∷ (y, b) ∷ []) in
        let constant = constant_matches program.special.falsity found.scrutinee found.bindings
        (subst (λ (p : Pattern). matched p found.scrutinee ≡ Some found.bindings) arm.0 found.selects.matches) in
        inr (inl (
          above_constant program.special.falsity found.scrutinee a constant.0 low,
          constant_gives program claims (bind_all env found.bindings) found.term v found.gives program.special.falsity arm.1,
        ))
    go low (inr arm) =
        let env = bind_all empty ((x, a) ∷ (y, b) ∷ []) in
        let constant = constant_matches program.special.truth found.scrutinee found.bindings
        (subst (λ (p : Pattern). matched p found.scrutinee ≡ Some found.bindings) arm.0 found.selects.matches) in
        let under = variable_gives program claims (bind_all env found.bindings) found.term v found.gives y arm.1 in
        let plain : bind_all env found.bindings y ≡ env y = ap (λ (xs : Bindings). bind_all env xs y) constant.1 in
        let after : env y ≡ b = ap (λ (t : Bool). if t then a else bind_all empty ((y, b) ∷ []) y) (not_same (nat_eq x y) refl) ∙ bound_last y b empty in
        inr (inr (above_constant program.special.truth found.scrutinee a constant.0 low, subst (λ (w : Value). Below v w) (plain ∙ after) under))
      where
        not_same : (t : Bool) → nat_eq x y ≡ t → t ≡ false
        not_same true same = absurd (differ (eqb-true x y same))
        not_same false other = refl

pub one_rule : (first : Rule) (k : ℕ) (rule : Rule) → slice_get (first ∷ []) k ≡ Some rule → rule ≡ first
one_rule first zero rule is = let same : first ≡ rule = cc in sym same
one_rule first (suc k) rule is = let no : ⊥ = cc in absurd no

abbrev both_case : Program → ℕ → ℕ → Rule
both_case program x y = record {
  params = term.MorePatterns (term.Any x) (term.MorePatterns (term.Any y) term.NoPattern);
  body = term.Case Flex (term.Variable x)
      (term.MoreAlternatives (term.Built program.special.falsity term.NoPattern) (term.Whole (head.Con program.special.falsity) term.NoTerm)
      (term.MoreAlternatives (term.Built program.special.truth term.NoPattern) (term.Variable y) term.NoAlternative));
}

one_case : (program : Program) (claims : List Claim) (x y : ℕ) (a b v : Value) → x ≢ y
    → RuleGives program claims (both_case program x y ∷ []) (value.MoreValues a (value.MoreValues b value.NoValue)) v → ConjunctionGives program a b v
one_case program claims x y a b v differ found =
    let us = value.MoreValues a (value.MoreValues b value.NoValue) in
    let rule_is : found.rule ≡ both_case program x y = one_rule (both_case program x y) found.place found.rule found.at in
    let matches : all_matched (both_case program x y).params us ≡ Some found.bindings =
    subst (λ (r : Rule). all_matched r.params us ≡ Some found.bindings) rule_is found.matches in
    let bindings_are : (x, a) ∷ (y, b) ∷ [] ≡ found.bindings = some_bindings ((x, a) ∷ (y, b) ∷ []) found.bindings matches in
    let body : Gives program claims (bind_all empty found.bindings) (both_case program x y).body v =
    subst (λ (r : Rule). Gives program claims (bind_all empty found.bindings) r.body v) rule_is found.gives in
    let inner : Gives program claims (bind_all empty ((x, a) ∷ (y, b) ∷ [])) (both_case program x y).body v =
    subst (λ (xs : Bindings). Gives program claims (bind_all empty xs) (both_case program x y).body v) (sym bindings_are) body in
    elim (case_gives program claims (bind_all empty ((x, a) ∷ (y, b) ∷ [])) (both_case program x y).body v inner Flex _ _ refl) [
      | inl none ↦ inl none
      | inr chosen ↦ by_case_gives program claims x y a b v differ chosen
    ]
  where
    some_bindings : (xs ys : Bindings) → Some xs ≡ Some ys → xs ≡ ys
    some_bindings xs ys same = cc

pub conjunction_gives : (program : Program) (claims : List Claim) (a b v : Value) → HasSpecial program
    → Applied program claims (head.Fun program.special.both) (value.MoreValues a (value.MoreValues b value.NoValue)) v → ConjunctionGives program a b v
conjunction_gives program claims a b v special app = by special.both.0.body refl special.both.3
  where
    us : Values
    us = value.MoreValues a (value.MoreValues b value.NoValue)

    by : (body : Body) → special.both.0.body ≡ body → IsConjunction program.special body → ConjunctionGives program a b v
    by body is (valid.by_rules _ x y rules_are) =
        let found = function_gives program claims (head.Fun program.special.both) us v app program.special.both special.both.0 _ refl special.both.1 (is ∙ rules_are) in
        by_rules_give program claims x y a b v found.bindings found.rule _ _ refl refl (two_rules _ _ found.place found.rule found.at) found.matches found.gives
    by body is (valid.by_case _ x y differ rules_are) =
        let found = function_gives program claims (head.Fun program.special.both) us v app program.special.both special.both.0 _ refl special.both.1 (is ∙ rules_are) in
        one_case program claims x y a b v differ found
