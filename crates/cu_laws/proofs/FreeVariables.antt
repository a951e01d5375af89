-- A derivation depends on the variables that its term uses, and on no others.
use Rattle.std.proofs.Common.{◌≡◌, ℕ, zero, suc, Bool, true, false, not, ◌&&◌, ◌||◌, if◌then◌else◌, List, [], ◌∷◌, ◌++◌, Some, refl, ap, ap₂, sym, ◌∙◌, subst, nat_eq}
use Rattle.std.proofs.lemmas.Bool.{and_parts}
use Rattle.cu_calculus.specs.Below.{Below}
use Rattle.cu_calculus.specs.Choose.{alternative_at}
use Rattle.cu_calculus.specs.Gives as gives
use Rattle.cu_calculus.specs.Gives.{AllGive, Claim, Gives}
use Rattle.cu_calculus.specs.Literal.{same_literal}
use Rattle.cu_calculus.specs.Match.{Bindings, Environment, all_matched, bind, bind_all, matched, same_constructor}
use Rattle.cu_calculus.specs.Program.{Program, arity_in}
use Rattle.cu_calculus.specs.Shape.{is_allowed, takes, takes_more}
use Rattle.cu_calculus.specs.Term as term
use Rattle.cu_calculus.specs.Term.{Alternatives, Pattern, Patterns, Term, Terms}
use Rattle.cu_calculus.specs.Valid.{all_variables, also, also_all, but, fit_alternatives, fit_terms, fits_pattern, fits_term, holds, is_linear, term_count, variables_of}
use Rattle.cu_calculus.specs.Value as value
use Rattle.cu_calculus.specs.Value.{Value, Values}
use Rattle.cu_calculus.proofs.BelowLaws.{below_itself, below_trans}
use Rattle.cu_calculus.proofs.FlatFitting.{nat_eq_comm}
use Rattle.cu_calculus.proofs.Matches.{after, halves, tested}
use Rattle.cu_laws.proofs.Raising.{by_test}

-- ---- the variables that are bound

abbrev pub names : Bindings → List ℕ
names [] = []
names ((x, v) ∷ bindings) = x ∷ names bindings

names_both : (xs ys : Bindings) → names (xs ++ ys) ≡ names xs ++ names ys
names_both [] ys = refl
names_both ((x, v) ∷ xs) ys = ap (λ (zs : List ℕ). x ∷ zs) (names_both xs ys)

some_bindings : (xs ys : Bindings) → Some xs ≡ Some ys → xs ≡ ys
some_bindings xs ys same = cc

-- what a pattern matches binds its variables
mutual
  pub matched_names : (p : Pattern) (v : Value) (bindings : Bindings) → matched p v ≡ Some bindings → variables_of p ≡ names bindings
  matched_names (term.Any x) v bindings is = ap names (some_bindings ((x, v) ∷ []) bindings is)
  matched_names (term.Named x p) v bindings is =
      let found = after x v (matched p v) bindings is in
      ap (λ (zs : List ℕ). x ∷ zs) (matched_names p v found.rest found.is) ∙ ap names (sym found.whole)
  matched_names (term.Exactly l) (value.Literal m) bindings is = let found = tested (same_literal l m) (Some []) bindings is in ap names (some_bindings [] bindings found.1)
  matched_names (term.Exactly l) _ bindings is = let no : ⊥ = cc in absurd no
  matched_names (term.Built c ps) (value.Constructed d vs) bindings is =
      let found = tested (same_constructor c d) (all_matched ps vs) bindings is in all_matched_names ps vs bindings found.1
  matched_names (term.Built c ps) _ bindings is = let no : ⊥ = cc in absurd no

  pub all_matched_names : (ps : Patterns) (vs : Values) (bindings : Bindings) → all_matched ps vs ≡ Some bindings → all_variables ps ≡ names bindings
  all_matched_names term.NoPattern value.NoValue bindings is = ap names (some_bindings [] bindings is)
  all_matched_names (term.MorePatterns p ps) (value.MoreValues v vs) bindings is =
      let found = halves (matched p v) (all_matched ps vs) bindings is in
      ap₂ (λ (xs ys : List ℕ). xs ++ ys) (matched_names p v found.one found.is_one) (all_matched_names ps vs found.two found.is_two)
      ∙ sym (names_both found.one found.two) ∙ ap names (sym found.whole)
  all_matched_names _ _ bindings is = let no : ⊥ = cc in absurd no

-- ---- environments that agree where variables may stand

-- at most the values of another environment at the variables that pass a test
abbrev pub BelowWhere : (ℕ → Bool) → Environment → Environment → Type 0
BelowWhere may low high = (x : ℕ) → may x ≡ true → Below (low x) (high x)

pub bind_where : (may : ℕ → Bool) (low high : Environment) (x : ℕ) (v : Value) → BelowWhere may low high → BelowWhere (also x may) (bind low x v) (bind high x v)
bind_where may low high x v under y passes =
    by_test (nat_eq x y) (λ b. (b || may y) ≡ true → Below (if b then v else low y) (if b then v else high y)) (λ same stands. below_itself v) (λ other stands. under y stands) passes

pub bind_all_where : (may : ℕ → Bool) (low high : Environment) (bindings : Bindings) → BelowWhere may low high
    → BelowWhere (also_all (names bindings) may) (bind_all low bindings) (bind_all high bindings)
bind_all_where may low high [] under y passes = under y passes
bind_all_where may low high ((x, v) ∷ bindings) under y passes =
    by_test (nat_eq x y) (λ b. nat_eq x y ≡ b → Below (if b then v else bind_all low bindings y) (if b then v else bind_all high bindings y)) (λ same e. below_itself v)
    (λ other e. bind_all_where may low high bindings under y (after_it (nat_eq y x) (nat_eq_comm y x ∙ e) passes)) refl
  where
    after_it : (b : Bool) → b ≡ false → ((b || holds y (names bindings)) || may y) ≡ true → (holds y (names bindings) || may y) ≡ true
    after_it b is stands = subst (λ (z : Bool). ((z || holds y (names bindings)) || may y) ≡ true) is stands

pub alternative_fits : (program : Program) (may : ℕ → Bool) (alternatives : Alternatives) (k : ℕ) (p : Pattern) (t : Term) → fit_alternatives program may alternatives ≡ true
    → alternative_at alternatives k ≡ Some (p, t) → fits_term program (also_all (variables_of p) may) t ≡ true
alternative_fits program may term.NoAlternative k p t fit is = let no : ⊥ = cc in absurd no
alternative_fits program may (term.MoreAlternatives q s alternatives) zero p t fit is =
    let pairs : (q, s) ≡ (p, t) = some_pair (q, s) (p, t) is in
    let prefix = fits_pattern program q && is_linear (variables_of q) in
    let parts = and_parts (prefix && fits_term program (also_all (variables_of q) may) s) (fit_alternatives program may alternatives) fit in
    subst (λ (x : Pattern × Term). fits_term program (also_all (variables_of x.0) may) x.1 ≡ true) pairs (and_parts prefix (fits_term program (also_all (variables_of q) may) s) parts.0).1
  where
    some_pair : (a b : Pattern × Term) → Some a ≡ Some b → a ≡ b
    some_pair a b same = cc
alternative_fits program may (term.MoreAlternatives q s alternatives) (suc k) p t fit is =
    let prefix = fits_pattern program q && is_linear (variables_of q) && fits_term program (also_all (variables_of q) may) s in
    alternative_fits program may alternatives k p t (and_parts prefix (fit_alternatives program may alternatives) fit).1 is

module _ (program : Program) (claims : List Claim) where
  mutual
    pub depends : (may : ℕ → Bool) (low high : Environment) (t : Term) (v : Value) → Gives program claims low t v → fits_term program may t ≡ true
        → BelowWhere may low high → Gives program claims high t v
    depends may low high _ _ (gives.bottom _ t) fit under = gives.bottom high t
    depends may low high _ _ (gives.variable _ x v p) fit under = gives.variable high x v (below_trans v (low x) (high x) p (under x fit))
    depends may low high _ _ (gives.literal _ l) fit under = gives.literal high l
    depends may low high _ _ (gives.whole _ h ts us v ps app) fit under =
        gives.whole high h ts us v (all_depend may low high ts us ps (and_parts (is_allowed program h && takes (arity_in program h) (term_count ts)) (fit_terms program may ts) fit).1 under) app
    depends may low high _ _ (gives.part _ h ts us ps) fit under =
        gives.part high h ts us (all_depend may low high ts us ps (and_parts (is_allowed program h && takes_more (arity_in program h) (term_count ts)) (fit_terms program may ts) fit).1 under)
    depends may low high _ _ (gives.applied _ f a w u v p q app) fit under =
        let parts = and_parts (fits_term program may f) (fits_term program may a) fit in
        gives.applied high f a w u v (depends may low high f w p parts.0 under) (depends may low high a u q parts.1 under) app
    depends may low high _ _ (gives.bound _ x a b u v p q) fit under =
        let parts = and_parts (fits_term program (but x may) a) (fits_term program (also x may) b) fit in
        gives.bound high x a b u v (depends (but x may) low high a u p parts.0 (λ y stands. under y (and_parts (not (nat_eq x y)) (may y) stands).1))
        (depends (also x may) (bind low x u) (bind high x u) b v q parts.1 (bind_where may low high x u under))
    depends may low high _ _ (gives.free _ x t u v total of_program p) fit under =
        gives.free high x t u v total of_program (depends (also x may) (bind low x u) (bind high x u) t v p fit (bind_where may low high x u under))
    depends may low high _ _ (gives.left _ a b v p) fit under =
        gives.left high a b v (depends may low high a v p (and_parts (fits_term program may a) (fits_term program may b) fit).0 under)
    depends may low high _ _ (gives.right _ a b v p) fit under =
        gives.right high a b v (depends may low high b v p (and_parts (fits_term program may a) (fits_term program may b) fit).1 under)
    depends may low high _ _ (gives.chosen _ mode a t alternatives bindings u v p selects q) fit under =
        let parts = and_parts (fits_term program may a) (fit_alternatives program may alternatives) fit in
        let named = matched_names selects.pattern u bindings selects.matches in
        let inner = subst (λ (xs : List ℕ). fits_term program (also_all xs may) t ≡ true) named
        (alternative_fits program may alternatives selects.choice selects.pattern t parts.1 selects.at) in
        gives.chosen high mode a t alternatives bindings u v (depends may low high a u p parts.0 under) selects
        (depends (also_all (names bindings) may) (bind_all low bindings) (bind_all high bindings) t v q inner (bind_all_where may low high bindings under))

    pub all_depend : (may : ℕ → Bool) (low high : Environment) (ts : Terms) (vs : Values) → AllGive program claims low ts vs → fit_terms program may ts ≡ true
        → BelowWhere may low high → AllGive program claims high ts vs
    all_depend may low high _ _ (gives.none _) fit under = gives.none high
    all_depend may low high _ _ (gives.more _ t ts v vs p ps) fit under =
        let parts = and_parts (fits_term program may t) (fit_terms program may ts) fit in
        gives.more high t ts v vs (depends may low high t v p parts.0 under) (all_depend may low high ts vs ps parts.1 under)
