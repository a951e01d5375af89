-- Patterns that match values, where their variables may be asked to stand for what they match, in any order.
use Rattle.std.proofs.Common.{◌≡◌, ℕ, Bool, true, false, not, List, [], ◌∷◌, ◌++◌, if◌then◌else◌, nat_eq, Option, None, Some, option_map, IsTrue, refl, ap, ap₂, sym, ◌∙◌, subst, eq-eqb, eqb-true, true≢false}
use Rattle.std.proofs.lemmas.Bool.{and_parts, or_parts}
use Rattle.cu_calculus.specs.declared.ConId.{ConId}
use Rattle.cu_calculus.specs.declared.Lit.{Lit}
use Rattle.cu_calculus.specs.Literal.{same_literal}
use Rattle.cu_calculus.specs.Match.{Bindings, Environment, all_matched, bind, bind_all, both, matched, same_constructor}
use Rattle.cu_calculus.specs.Term as term
use Rattle.cu_calculus.specs.Term.{Pattern, Patterns}
use Rattle.cu_calculus.specs.Valid.{all_variables, holds, is_linear, variables_of}
use Rattle.cu_calculus.specs.Value as value
use Rattle.cu_calculus.specs.Value.{Value, Values, list_of}
use Rattle.cu_calculus.proofs.Choosing.{literal_itself}
use Rattle.cu_calculus.proofs.Answering.{literal_is}
use Rattle.cu_calculus.proofs.Comparing.{same_is}
use Rattle.cu_calculus.proofs.Matches.{after, halves, tested}

-- what is asked of a variable: nothing, or that an environment has the value
abbrev pub Stands : Option Environment → ℕ → Value → Type 0
Stands None x v = Unit {0}
Stands (Some env) x v = env x ≡ v

abbrev mutual
  pub Fits : Option Environment → Pattern → Value → Type 0
  Fits env (term.Any x) v = Stands env x v
  Fits env (term.Named x p) v = Stands env x v × Fits env p v
  Fits env (term.Exactly l) v = v ≡ value.Literal l
  Fits env (term.Built c ps) v = (us : Values) × (v ≡ value.Constructed c us) × AllFit env ps us

  pub AllFit : Option Environment → Patterns → Values → Type 0
  AllFit env term.NoPattern vs = vs ≡ value.NoValue
  AllFit env (term.MorePatterns p ps) vs = (u : Value) × (us : Values) × (vs ≡ value.MoreValues u us) × Fits env p u × AllFit env ps us

-- the same, but for the variables that stand for the whole value
abbrev pub Meets : Option Environment → Pattern → Value → Type 0
Meets env (term.Any x) v = Unit {0}
Meets env (term.Named x p) v = Meets env p v
Meets env (term.Exactly l) v = v ≡ value.Literal l
Meets env (term.Built c ps) v = (us : Values) × (v ≡ value.Constructed c us) × AllFit env ps us

abbrev pub AllMeet : Option Environment → List Pattern → List Value → Type 0
AllMeet env [] [] = Unit {0}
AllMeet env (p ∷ ps) (v ∷ vs) = Meets env p v × AllMeet env ps vs
AllMeet env [] (v ∷ vs) = ⊥
AllMeet env (p ∷ ps) [] = ⊥

pub fits_meets : (env : Option Environment) (p : Pattern) (v : Value) → Fits env p v → Meets env p v
fits_meets env (term.Any x) v h = tt
fits_meets env (term.Named x p) v h = fits_meets env p v h.1
fits_meets env (term.Exactly l) v h = h
fits_meets env (term.Built c ps) v h = h

pub shape_fits : (p : Pattern) (v : Value) → Meets None p v → Fits None p v
shape_fits (term.Any x) v h = tt
shape_fits (term.Named x p) v h = (tt, shape_fits p v h)
shape_fits (term.Exactly l) v h = h
shape_fits (term.Built c ps) v h = h

-- ---- matching

abbrev nothing : Bindings
nothing = []

pub literal_matches : (l : Lit) → matched (term.Exactly l) (value.Literal l) ≡ Some []
literal_matches l = by (same_literal l l) (literal_itself l)
  where
    by : (b : Bool) → b ≡ true → (if b then Some nothing else None) ≡ Some nothing
    by true e = refl
    by false e = let no : ⊥ = cc in absurd no

pub built_matches : (c : ConId) (ps : Patterns) (us : Values) (b : Bindings) → all_matched ps us ≡ Some b
    → matched (term.Built c ps) (value.Constructed c us) ≡ Some b
built_matches c ps us b e = by (same_constructor c c) (eq-eqb c.0 c.0 refl)
  where
    by : (t : Bool) → t ≡ true → (if t then all_matched ps us else None) ≡ Some b
    by true h = e
    by false h = let no : ⊥ = cc in absurd no

mutual
  -- a value of a pattern's shape is matched
  pub shape_matched : (p : Pattern) (v : Value) → Fits None p v → (b : Bindings) × (matched p v ≡ Some b)
  shape_matched (term.Any x) v h = ((x, v) ∷ [], refl)
  shape_matched (term.Named x p) v h =
      let rest = shape_matched p v h.1 in ((x, v) ∷ rest.0, ap (option_map (λ bindings. (x, v) ∷ bindings)) rest.1)
  shape_matched (term.Exactly l) v h = ([], ap (matched (term.Exactly l)) h ∙ literal_matches l)
  shape_matched (term.Built c ps) v h =
      let rest = all_shape_matched ps h.0 h.2 in (rest.0, ap (matched (term.Built c ps)) h.1 ∙ built_matches c ps h.0 rest.0 rest.1)

  pub all_shape_matched : (ps : Patterns) (vs : Values) → AllFit None ps vs → (b : Bindings) × (all_matched ps vs ≡ Some b)
  all_shape_matched term.NoPattern vs h = ([], ap (all_matched term.NoPattern) h)
  all_shape_matched (term.MorePatterns p ps) vs h =
      let one = shape_matched p h.0 h.3 in
      let rest = all_shape_matched ps h.1 h.4 in
      (one.0 ++ rest.0, ap (all_matched (term.MorePatterns p ps)) h.2 ∙ ap₂ both one.1 rest.1)

-- an environment has what bindings say
abbrev pub Agrees : Environment → Bindings → Type 0
Agrees env [] = Unit {0}
Agrees env ((x, v) ∷ b) = (env x ≡ v) × Agrees env b

agrees_parts : (env : Environment) (one two : Bindings) → Agrees env (one ++ two) → Agrees env one × Agrees env two
agrees_parts env [] two h = (tt, h)
agrees_parts env ((x, v) ∷ one) two h = let rest = agrees_parts env one two h.1 in ((h.0, rest.0), rest.1)

pub literal_fits : (l : Lit) (v : Value) (b : Bindings) → matched (term.Exactly l) v ≡ Some b → v ≡ value.Literal l
literal_fits l value.Bottom b e = let no : ⊥ = cc in absurd no
literal_fits l (value.Variable x) b e = let no : ⊥ = cc in absurd no
literal_fits l (value.Constructed c vs) b e = let no : ⊥ = cc in absurd no
literal_fits l (value.Partial h vs) b e = let no : ⊥ = cc in absurd no
literal_fits l (value.Literal m) b e = ap value.Literal (sym (literal_is l m (tested (same_literal l m) (Some []) b e).0))

pub built_fits : (c : ConId) (ps : Patterns) (v : Value) (b : Bindings) → matched (term.Built c ps) v ≡ Some b
    → (us : Values) × (v ≡ value.Constructed c us) × (all_matched ps us ≡ Some b)
built_fits c ps value.Bottom b e = let no : ⊥ = cc in absurd no
built_fits c ps (value.Variable x) b e = let no : ⊥ = cc in absurd no
built_fits c ps (value.Literal l) b e = let no : ⊥ = cc in absurd no
built_fits c ps (value.Partial h vs) b e = let no : ⊥ = cc in absurd no
built_fits c ps (value.Constructed d vs) b e =
    let parts = tested (same_constructor c d) (all_matched ps vs) b e in
    (vs, ap (λ (x : ConId). value.Constructed x vs) (sym (same_is c d parts.0)), parts.1)

mutual
  -- what is matched fits, in an environment that has the bindings
  pub matched_fits : (env : Environment) (p : Pattern) (v : Value) (b : Bindings) → matched p v ≡ Some b → Agrees env b → Fits (Some env) p v
  matched_fits env (term.Any x) v b e h =
      let same : (x, v) ∷ [] ≡ b = cc in (subst (λ (a : Bindings). Agrees env a) (sym same) h).0
  matched_fits env (term.Named x p) v b e h =
      let found = after x v (matched p v) b e in
      let all = subst (λ (a : Bindings). Agrees env a) found.whole h in
      (all.0, matched_fits env p v found.rest found.is all.1)
  matched_fits env (term.Exactly l) v b e h = literal_fits l v b e
  matched_fits env (term.Built c ps) v b e h =
      let found = built_fits c ps v b e in (found.0, found.1, all_matched_fits env ps found.0 b found.2 h)

  pub all_matched_fits : (env : Environment) (ps : Patterns) (vs : Values) (b : Bindings) → all_matched ps vs ≡ Some b → Agrees env b
      → AllFit (Some env) ps vs
  all_matched_fits env term.NoPattern value.NoValue b e h = refl
  all_matched_fits env term.NoPattern (value.MoreValues v vs) b e h = let no : ⊥ = cc in absurd no
  all_matched_fits env (term.MorePatterns p ps) value.NoValue b e h = let no : ⊥ = cc in absurd no
  all_matched_fits env (term.MorePatterns p ps) (value.MoreValues v vs) b e h =
      let found = halves (matched p v) (all_matched ps vs) b e in
      let parts = agrees_parts env found.one found.two (subst (λ (a : Bindings). Agrees env a) found.whole h) in
      (v, vs, refl, matched_fits env p v found.one found.is_one parts.0, all_matched_fits env ps vs found.two found.is_two parts.1)

-- ---- the variables of bindings

abbrev pub bound_in : Bindings → List ℕ
bound_in [] = []
bound_in ((x, v) ∷ b) = x ∷ bound_in b

bound_append : (one two : Bindings) → bound_in (one ++ two) ≡ bound_in one ++ bound_in two
bound_append [] two = refl
bound_append ((x, v) ∷ one) two = ap (λ xs. x ∷ xs) (bound_append one two)

pub literal_binds : (l : Lit) (v : Value) (b : Bindings) → matched (term.Exactly l) v ≡ Some b → bound_in b ≡ []
literal_binds l value.Bottom b e = let no : ⊥ = cc in absurd no
literal_binds l (value.Variable x) b e = let no : ⊥ = cc in absurd no
literal_binds l (value.Constructed c vs) b e = let no : ⊥ = cc in absurd no
literal_binds l (value.Partial h vs) b e = let no : ⊥ = cc in absurd no
literal_binds l (value.Literal m) b e =
    let parts = tested (same_literal l m) (Some []) b e in
    let same : [] ≡ b = cc in ap bound_in (sym same)

mutual
  pub matched_binds : (p : Pattern) (v : Value) (b : Bindings) → matched p v ≡ Some b → bound_in b ≡ variables_of p
  matched_binds (term.Any x) v b e = let same : (x, v) ∷ [] ≡ b = cc in ap bound_in (sym same)
  matched_binds (term.Named x p) v b e =
      let found = after x v (matched p v) b e in
      ap bound_in found.whole ∙ ap (λ xs. x ∷ xs) (matched_binds p v found.rest found.is)
  matched_binds (term.Exactly l) v b e = literal_binds l v b e
  matched_binds (term.Built c ps) v b e = let found = built_fits c ps v b e in all_matched_binds ps found.0 b found.2

  pub all_matched_binds : (ps : Patterns) (vs : Values) (b : Bindings) → all_matched ps vs ≡ Some b → bound_in b ≡ all_variables ps
  all_matched_binds term.NoPattern value.NoValue b e = let same : [] ≡ b = cc in ap bound_in (sym same)
  all_matched_binds term.NoPattern (value.MoreValues v vs) b e = let no : ⊥ = cc in absurd no
  all_matched_binds (term.MorePatterns p ps) value.NoValue b e = let no : ⊥ = cc in absurd no
  all_matched_binds (term.MorePatterns p ps) (value.MoreValues v vs) b e =
      let found = halves (matched p v) (all_matched ps vs) b e in
      ap bound_in found.whole ∙ bound_append found.one found.two
      ∙ ap₂ (λ (xs ys : List ℕ). xs ++ ys) (matched_binds p v found.one found.is_one) (all_matched_binds ps vs found.two found.is_two)

-- binding another variable changes nothing of what bindings say
bind_if : (t : Bool) (u v : Value) → t ≡ false → (if t then u else v) ≡ v
bind_if true u v e = let no : ⊥ = cc in absurd no
bind_if false u v e = refl

bind_here : (t : Bool) (u v : Value) → t ≡ true → (if t then u else v) ≡ u
bind_here true u v e = refl
bind_here false u v e = let no : ⊥ = cc in absurd no

agrees_bind : (env : Environment) (x : ℕ) (u : Value) (b : Bindings) → holds x (bound_in b) ≡ false → Agrees env b → Agrees (bind env x u) b
agrees_bind env x u [] h k = tt
agrees_bind env x u ((y, v) ∷ b) h k =
    let parts = or_parts (nat_eq x y) (holds x (bound_in b)) h in
    (bind_if (nat_eq x y) u (env y) parts.0 ∙ k.0, agrees_bind env x u b parts.1 k.1)

not_false : (b : Bool) → not b ≡ true → b ≡ false
not_false true e = let no : ⊥ = cc in absurd no
not_false false e = refl

-- an environment that bindings of different variables make has them
pub bound_agrees : (env : Environment) (b : Bindings) → IsTrue (is_linear (bound_in b)) → Agrees (bind_all env b) b
bound_agrees env [] h = tt
bound_agrees env ((x, v) ∷ b) h =
    let parts = and_parts (not (holds x (bound_in b))) (is_linear (bound_in b)) h in (
      bind_here (nat_eq x x) v (bind_all env b x) (eq-eqb x x refl),
      agrees_bind (bind_all env b) x v b (not_false (holds x (bound_in b)) parts.0) (bound_agrees env b parts.1),
    )

equal_swaps : (x y : ℕ) → nat_eq x y ≡ false → nat_eq y x ≡ false
equal_swaps x y h = by (nat_eq y x) refl
  where
    by : (b : Bool) → nat_eq y x ≡ b → b ≡ false
    by true e = absurd (true≢false (sym (eq-eqb x y (sym (eqb-true y x e))) ∙ h))
    by false e = refl

-- and leaves the other variables
pub others_stay : (env : Environment) (b : Bindings) (x : ℕ) → holds x (bound_in b) ≡ false → bind_all env b x ≡ env x
others_stay env [] x h = refl
others_stay env ((y, v) ∷ b) x h =
    let parts = or_parts (nat_eq x y) (holds x (bound_in b)) h in
    bind_if (nat_eq y x) v (bind_all env b x) (equal_swaps x y parts.0) ∙ others_stay env b x parts.1
