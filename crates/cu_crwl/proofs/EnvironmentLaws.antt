-- The test of environments decides that they say the same of every variable.
use Rattle.std.proofs.Common.{◌≡◌, ℕ, Bool, true, false, ◌&&◌, List, [], ◌∷◌, Option, None, Some, nat_eq, if◌then◌else◌, refl, ap, ap₂, sym, subst, ◌∙◌, eq-eqb, eqb-true, ne_eqb}
use Rattle.std.specs.List.{list_all}
use Rattle.std.specs.Prelude.{unwrap_or}
use Rattle.std.proofs.lemmas.Bool.{and_from, and_parts}
use Rattle.cu_calculus.specs.Answered.{same_value}
use Rattle.cu_calculus.specs.Match.{Bindings, Environment, bind_all, empty}
use Rattle.cu_calculus.specs.Proof.{AllSay, Says, Statement}
use Rattle.cu_calculus.specs.Term as term
use Rattle.cu_calculus.specs.Term.{Term, Terms}
use Rattle.cu_calculus.specs.Value as value
use Rattle.cu_calculus.specs.Value.{Value, Values}
use Rattle.cu_calculus.proofs.Answering.{same_value_from, value_is}
use Rattle.cu_crwl.specs.Environments.{agrees, agrees_at, agrees_on, all_about, is_about, lookup, says, values_said}
use Rattle.cu_values.specs.Approximation.{is_below}
use Rattle.cu_crwl.specs.Same.{same_term}
use Rattle.cu_crwl.specs.Table.{is_bottom}
use Rattle.cu_crwl.proofs.SameTerms.{term_is, term_itself}

if_some : (b : Bool) (found : Option Value) (v w : Value) → unwrap_or found w ≡ w → unwrap_or (if b then Some v else found) w ≡ (if b then v else w)
if_some true found v w e = refl
if_some false found v w e = e

-- what bindings over an environment say
pub bound_is : (env : Environment) (bindings : Bindings) (x : ℕ) → bind_all env bindings x ≡ unwrap_or (lookup bindings x) (env x)
bound_is env [] x = refl
bound_is env ((y, v) ∷ bindings) x = by (nat_eq y x) (bound_is env bindings x)
  where
    by : (b : Bool) → bind_all env bindings x ≡ unwrap_or (lookup bindings x) (env x)
        → (if b then v else bind_all env bindings x) ≡ unwrap_or (if b then Some v else lookup bindings x) (env x)
    by true e = refl
    by false e = e

-- a test that all bound variables pass is passed by a variable that is bound
passed : (test : ℕ → Bool) (bindings : Bindings) (x : ℕ) (v : Value) → list_all (λ b. test b.0) bindings ≡ true → lookup bindings x ≡ Some v
    → test x ≡ true
passed test [] x v all found = let never : ⊥ = cc in absurd never
passed test ((y, w) ∷ bindings) x v all found =
    let parts = and_parts (test y) (list_all (λ b. test b.0) bindings) all in
    by parts.0 (λ f. passed test bindings x v parts.1 f) (nat_eq y x) refl found
  where
    by : test y ≡ true → (lookup bindings x ≡ Some v → test x ≡ true) → (b : Bool) → nat_eq y x ≡ b
        → (if b then Some w else lookup bindings x) ≡ Some v → test x ≡ true
    by first rest true e f = subst (λ (n : ℕ). test n ≡ true) (eqb-true y x e) first
    by first rest false e f = rest f

all_pass : (test : ℕ → Bool) (bindings : Bindings) → ((x : ℕ) → test x ≡ true) → list_all (λ b. test b.0) bindings ≡ true
all_pass test [] all = refl
all_pass test (b ∷ bindings) all = and_from (test b.0) (list_all (λ b. test b.0) bindings) (all b.0) (all_pass test bindings all)

pub agreeing : (bindings new old : Bindings) → agrees bindings new old ≡ true
    → (x : ℕ) → bind_all empty bindings x ≡ bind_all (bind_all empty old) new x
unfolding agrees
agreeing bindings new old e x = by (lookup bindings x) (lookup new x) (lookup old x) refl refl refl
  where
    test : ℕ → Bool
    test = agrees_at bindings new old

    first : (agrees_on bindings bindings new old && agrees_on new bindings new old ≡ true) × (agrees_on old bindings new old ≡ true)
    first = and_parts (agrees_on bindings bindings new old && agrees_on new bindings new old) (agrees_on old bindings new old) e

    second : (agrees_on bindings bindings new old ≡ true) × (agrees_on new bindings new old ≡ true)
    second = and_parts (agrees_on bindings bindings new old) (agrees_on new bindings new old) first.0

    there : agrees_at bindings new old x ≡ true → bind_all empty bindings x ≡ bind_all (bind_all empty old) new x
    there h = value_is (bind_all empty bindings x) (bind_all (bind_all empty old) new x) h

    by : (a b c : Option Value) → lookup bindings x ≡ a → lookup new x ≡ b → lookup old x ≡ c
        → bind_all empty bindings x ≡ bind_all (bind_all empty old) new x
    by (Some v) b c f g h = there (passed (agrees_at bindings new old) bindings x v second.0 f)
    by None (Some v) c f g h = there (passed (agrees_at bindings new old) new x v second.1 g)
    by None None (Some v) f g h = there (passed (agrees_at bindings new old) old x v first.1 h)
    by None None None f g h =
        bound_is empty bindings x ∙ ap (λ (o : Option Value). unwrap_or o value.Bottom) f
        ∙ sym (bound_is (bind_all empty old) new x ∙ ap (λ (o : Option Value). unwrap_or o (bind_all empty old x)) g
        ∙ bound_is empty old x ∙ ap (λ (o : Option Value). unwrap_or o value.Bottom) h)

pub agree : (bindings new old : Bindings) → ((x : ℕ) → bind_all empty bindings x ≡ bind_all (bind_all empty old) new x)
    → agrees bindings new old ≡ true
unfolding agrees
agree bindings new old same =
    and_from (agrees_on bindings bindings new old && agrees_on new bindings new old) (agrees_on old bindings new old)
    (and_from (agrees_on bindings bindings new old) (agrees_on new bindings new old)
    (all_pass (agrees_at bindings new old) bindings all) (all_pass (agrees_at bindings new old) new all)) (all_pass (agrees_at bindings new old) old all)
  where
    all : (x : ℕ) → agrees_at bindings new old x ≡ true
    all x = same_value_from (bind_all empty bindings x) (bind_all (bind_all empty old) new x) (same x)

-- a statement about a term says its own value of it
pub about_says : (s : Statement) (new old : Bindings) (t : Term) → is_about s new old t ≡ true → Says s (bind_all (bind_all empty old) new) t s.value
unfolding is_about
about_says s new old t e =
    let parts = and_parts (agrees s.env new old) (same_term s.term t) e in
    record { at = agreeing s.env new old parts.0; term = term_is s.term t parts.1; value = refl }

pub says_about : (s : Statement) (new old : Bindings) (t : Term) (v : Value) → Says s (bind_all (bind_all empty old) new) t v
    → is_about s new old t ≡ true
unfolding is_about
says_about s new old t v h =
    and_from (agrees s.env new old) (same_term s.term t) (agree s.env new old h.at)
    (subst (λ (u : Term). same_term s.term u ≡ true) h.term (term_itself s.term))

pub says_says : (s : Statement) (new old : Bindings) (t : Term) (v : Value) → says s new old t v ≡ true → Says s (bind_all (bind_all empty old) new) t v
unfolding says
says_says s new old t v e =
    let parts = and_parts (is_about s new old t) (same_value s.value v) e in
    let about : Says s (bind_all (bind_all empty old) new) t s.value = about_says s new old t parts.0 in
    record { at = about.at; term = about.term; value = value_is s.value v parts.1 }

pub said : (s : Statement) (new old : Bindings) (t : Term) (v : Value) → Says s (bind_all (bind_all empty old) new) t v → says s new old t v ≡ true
unfolding says
said s new old t v h =
    and_from (is_about s new old t) (same_value s.value v) (says_about s new old t v h) (same_value_from s.value v h.value)

pub all_about_say : (ss : List Statement) (env : Bindings) (ts : Terms) → all_about ss env ts ≡ true
    → AllSay ss (bind_all empty env) ts (values_said ss)
all_about_say [] env term.NoTerm e = tt
all_about_say [] env (term.MoreTerms t ts) e = let never : ⊥ = cc in absurd never
all_about_say (s ∷ ss) env term.NoTerm e = let never : ⊥ = cc in absurd never
all_about_say (s ∷ ss) env (term.MoreTerms t ts) e =
    let parts = and_parts (is_about s [] env t) (all_about ss env ts) e in
    (about_says s [] env t parts.0, all_about_say ss env ts parts.1)

pub all_say_about : (ss : List Statement) (env : Bindings) (ts : Terms) (vs : Values) → AllSay ss (bind_all empty env) ts vs
    → (all_about ss env ts ≡ true) × (values_said ss ≡ vs)
all_say_about [] env term.NoTerm value.NoValue h = (refl, refl)
all_say_about [] env term.NoTerm (value.MoreValues v vs) h = absurd h
all_say_about [] env (term.MoreTerms t ts) vs h = absurd h
all_say_about (s ∷ ss) env term.NoTerm vs h = absurd h
all_say_about (s ∷ ss) env (term.MoreTerms t ts) value.NoValue h = absurd h
all_say_about (s ∷ ss) env (term.MoreTerms t ts) (value.MoreValues v vs) h =
    let rest = all_say_about ss env ts vs h.1 in
    let first : s.value ≡ v = h.0.value in
    (and_from (is_about s [] env t) (all_about ss env ts) (says_about s [] env t v h.0) rest.0, (let last = rest.1 in cc))

-- what the test at a variable compares
pub agrees_at_is : (bindings new old : Bindings) (x : ℕ) → agrees_at bindings new old x
    ≡ same_value (unwrap_or (lookup bindings x) value.Bottom) (unwrap_or (lookup new x) (unwrap_or (lookup old x) value.Bottom))
agrees_at_is bindings new old x =
    ap₂ same_value (bound_is empty bindings x)
    (bound_is (bind_all empty old) new x ∙ ap (unwrap_or (lookup new x)) (bound_is empty old x))

pub lookup_here : (b : ℕ × Value) (bindings : Bindings) (x : ℕ) → b.0 ≡ x → lookup (b ∷ bindings) x ≡ Some b.1
lookup_here b bindings x e = ap (λ (t : Bool). if t then Some b.1 else lookup bindings x) (eq-eqb b.0 x e)

pub lookup_there : (b : ℕ × Value) (bindings : Bindings) (x : ℕ) → (b.0 ≡ x → ⊥) → lookup (b ∷ bindings) x ≡ lookup bindings x
lookup_there b bindings x n = ap (λ (t : Bool). if t then Some b.1 else lookup bindings x) (ne_eqb b.0 x n)

-- what is below what bindings say of a variable
pub below_bound : (bindings : Bindings) (x : ℕ) (v : Value) → is_below v (bind_all empty bindings x) ≡ is_below v (unwrap_or (lookup bindings x) value.Bottom)
below_bound bindings x v = ap (is_below v) (bound_is empty bindings x)

pub below_bottom : (v : Value) → is_below v value.Bottom ≡ is_bottom v
below_bottom value.Bottom = refl
below_bottom (value.Variable x) = refl
below_bottom (value.Literal l) = refl
below_bottom (value.Constructed c vs) = refl
below_bottom (value.Partial h vs) = refl

-- a variable that isn't bound stands for no total data
pub free_bound : (bindings : Bindings) (x : ℕ) → bind_all empty bindings x ≡ unwrap_or (lookup bindings x) value.Bottom
free_bound bindings x = bound_is empty bindings x
