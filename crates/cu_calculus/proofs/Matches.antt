-- What a pattern matches, it matches when more is known of it, and its variables stand for at least
-- what they did.
use Rattle.std.proofs.Common.{◌≡◌, ℕ, Bool, true, false, [], ◌∷◌, ◌++◌, if◌then◌else◌, nat_eq, Option, None, Some, option_map, refl, ap, ap₂, sym, ◌∙◌, subst}
use Rattle.cu_calculus.specs.declared.ConId.{ConId}
use Rattle.cu_calculus.specs.declared.Lit.{Lit}
use Rattle.cu_calculus.specs.Below as below
use Rattle.cu_calculus.specs.Below.{AllBelow, Below, BindingsBelow, EnvBelow}
use Rattle.cu_calculus.specs.Literal.{same_literal}
use Rattle.cu_calculus.specs.Match.{Bindings, Environment, all_matched, bind, bind_all, both, matched, same_constructor}
use Rattle.cu_calculus.specs.Term as term
use Rattle.cu_calculus.specs.Term.{Pattern, Patterns}
use Rattle.cu_calculus.specs.Value.{Value, Values}

-- what an alias binds after its variable
pub record After (x : ℕ) (u : Value) (found : Option Bindings) (all : Bindings) : Type 0 where
  pub rest : Bindings
  pub is : found ≡ Some rest
  pub whole : all ≡ (x, u) ∷ rest

pub after : (x : ℕ) (u : Value) (found : Option Bindings) (all : Bindings) → option_map (λ bindings. (x, u) ∷ bindings) found ≡ Some all
    → After x u found all
after x u None all e = let no : ⊥ = cc in absurd no
after x u (Some rest) all e = record { rest = rest; is = refl; whole = cc }

-- what two matches bind together
pub record Halves (first second : Option Bindings) (all : Bindings) : Type 0 where
  pub one : Bindings
  pub two : Bindings
  pub is_one : first ≡ Some one
  pub is_two : second ≡ Some two
  pub whole : all ≡ one ++ two

pub halves : (first second : Option Bindings) (all : Bindings) → both first second ≡ Some all → Halves first second all
halves None None all e = let no : ⊥ = cc in absurd no
halves None (Some two) all e = let no : ⊥ = cc in absurd no
halves (Some one) None all e = let no : ⊥ = cc in absurd no
halves (Some one) (Some two) all e = record { one = one; two = two; is_one = refl; is_two = refl; whole = cc }

pub bindings_append : (low high more higher : Bindings) → BindingsBelow low high → BindingsBelow more higher
    → BindingsBelow (low ++ more) (high ++ higher)
bindings_append [] [] more higher h k = k
bindings_append [] (b ∷ high) more higher h k = absurd h
bindings_append ((x, u) ∷ low) [] more higher h k = absurd h
bindings_append ((x, u) ∷ low) ((y, v) ∷ high) more higher h k = (h.0, h.1, bindings_append low high more higher h.2 k)

-- a match that binds at least what another does
pub record Rises (low : Bindings) (found : Option Bindings) : Type 0 where
  pub high : Bindings
  pub is : found ≡ Some high
  pub above : BindingsBelow low high

-- a match after a test
pub tested : (b : Bool) (found : Option Bindings) (all : Bindings) → (if b then found else None) ≡ Some all → (b ≡ true) × (found ≡ Some all)
tested true found all e = (refl, e)
tested false found all e = let no : ⊥ = cc in absurd no

pub if_true : (b : Bool) (found : Option Bindings) → b ≡ true → (if b then found else None) ≡ found
if_true true found e = refl
if_true false found e = let no : ⊥ = cc in absurd no

rises_literal : (l : Lit) (u v : Value) → Below u v → (low : Bindings) → matched (term.Exactly l) u ≡ Some low
    → Rises low (matched (term.Exactly l) v)
rises_literal l _ _ (below.bottom v) low e = let no : ⊥ = cc in absurd no
rises_literal l _ _ (below.variable x) low e = let no : ⊥ = cc in absurd no
rises_literal l _ _ (below.literal m) low e =
    let parts = tested (same_literal l m) (Some []) low e in
    let none : [] ≡ low = cc in
    record { high = low; is = e; above = subst (λ (x : Bindings). BindingsBelow x x) none tt }
rises_literal l _ _ (below.constructed c us vs p) low e = let no : ⊥ = cc in absurd no
rises_literal l _ _ (below.partial h us vs p) low e = let no : ⊥ = cc in absurd no

rises_built : (c : ConId) (ps : Patterns) (u v : Value) → Below u v → (low : Bindings) → matched (term.Built c ps) u ≡ Some low
    → ((us vs : Values) → AllBelow us vs → all_matched ps us ≡ Some low → Rises low (all_matched ps vs))
    → Rises low (matched (term.Built c ps) v)
rises_built c ps _ _ (below.bottom v) low e inner = let no : ⊥ = cc in absurd no
rises_built c ps _ _ (below.variable x) low e inner = let no : ⊥ = cc in absurd no
rises_built c ps _ _ (below.literal m) low e inner = let no : ⊥ = cc in absurd no
rises_built c ps _ _ (below.partial h us vs p) low e inner = let no : ⊥ = cc in absurd no
rises_built c ps _ _ (below.constructed d us vs p) low e inner =
    let parts = tested (same_constructor c d) (all_matched ps us) low e in
    let found = inner us vs p parts.1 in
    record { high = found.high; is = if_true (same_constructor c d) (all_matched ps vs) parts.0 ∙ found.is; above = found.above }

rises_one : (x : ℕ) (u v : Value) (low : Bindings) → Below u v → Some ((x, u) ∷ []) ≡ Some low → Rises low (Some ((x, v) ∷ []))
rises_one x u v low p e =
    let same : (x, u) ∷ [] ≡ low = cc in
    record { high = (x, v) ∷ []; is = refl; above = subst (λ (b : Bindings). BindingsBelow b ((x, v) ∷ [])) same (refl, p, tt) }

rises_named : (x : ℕ) (u v : Value) (low rest : Bindings) (found : Option Bindings) → Below u v → low ≡ (x, u) ∷ rest → Rises rest found
    → Rises low (option_map (λ bindings. (x, v) ∷ bindings) found)
rises_named x u v low rest found p whole more = record {
  high = (x, v) ∷ more.high;
  is = ap (option_map (λ bindings. (x, v) ∷ bindings)) more.is;
  above = subst (λ (b : Bindings). BindingsBelow b ((x, v) ∷ more.high)) (sym whole) (refl, p, more.above);
}

rises_both : (low one two : Bindings) (first second : Option Bindings) → low ≡ one ++ two → Rises one first → Rises two second
    → Rises low (both first second)
rises_both low one two first second whole a b = record {
  high = a.high ++ b.high;
  is = ap₂ both a.is b.is;
  above = subst (λ (x : Bindings). BindingsBelow x (a.high ++ b.high)) (sym whole) (bindings_append one a.high two b.high a.above b.above);
}

mutual
  pub matched_rises : (p : Pattern) (u v : Value) (low : Bindings) → Below u v → matched p u ≡ Some low → Rises low (matched p v)
  matched_rises (term.Any x) u v low h e = rises_one x u v low h e
  matched_rises (term.Exactly l) u v low h e = rises_literal l u v h low e
  matched_rises (term.Built c ps) u v low h e = rises_built c ps u v h low e (λ us vs p f. all_matched_rises ps us vs low p f)
  matched_rises (term.Named x p) u v low h e =
      let found = after x u (matched p u) low e in
      rises_named x u v low found.rest (matched p v) h found.whole (matched_rises p u v found.rest h found.is)

  pub all_matched_rises : (ps : Patterns) (us vs : Values) (low : Bindings) → AllBelow us vs → all_matched ps us ≡ Some low
      → Rises low (all_matched ps vs)
  all_matched_rises term.NoPattern _ _ low below.none e =
      let none : [] ≡ low = cc in record { high = low; is = e; above = subst (λ (x : Bindings). BindingsBelow x x) none tt }
  all_matched_rises term.NoPattern _ _ low (below.more u v us vs p ps) e = let no : ⊥ = cc in absurd no
  all_matched_rises (term.MorePatterns p ps) _ _ low below.none e = let no : ⊥ = cc in absurd no
  all_matched_rises (term.MorePatterns p ps) _ _ low (below.more u v us vs h hs) e =
      let found = halves (matched p u) (all_matched ps us) low e in
      rises_both low found.one found.two (matched p v) (all_matched ps vs) found.whole (matched_rises p u v found.one h found.is_one)
      (all_matched_rises ps us vs found.two hs found.is_two)

-- greater environments and greater bindings give a greater environment
pub bind_rises : (low high : Environment) (x : ℕ) (u v : Value) → EnvBelow low high → Below u v → EnvBelow (bind low x u) (bind high x v)
bind_rises low high x u v h k y = by (nat_eq x y)
  where
    by : (b : Bool) → Below (if b then u else low y) (if b then v else high y)
    by true = k
    by false = h y

pub bind_all_rises : (low high : Environment) (bindings greater : Bindings) → EnvBelow low high → BindingsBelow bindings greater
    → EnvBelow (bind_all low bindings) (bind_all high greater)
bind_all_rises low high [] [] h k = h
bind_all_rises low high [] (b ∷ greater) h k = absurd k
bind_all_rises low high ((x, u) ∷ bindings) [] h k = absurd k
bind_all_rises low high ((x, u) ∷ bindings) ((y, v) ∷ greater) h k =
    subst (λ (z : ℕ). EnvBelow (bind (bind_all low bindings) x u) (bind (bind_all high greater) z v)) k.0
    (bind_rises (bind_all low bindings) (bind_all high greater) x u v (bind_all_rises low high bindings greater h k.2) k.1)
