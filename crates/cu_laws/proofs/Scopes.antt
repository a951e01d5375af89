-- What variables stand for where a scope names nodes beside them, and where bindings give their
-- values.
use Rattle.std.proofs.Common.{◌≡◌, ℕ, Bool, true, false, not, ◌||◌, if◌then◌else◌, List, [], ◌∷◌, ◌++◌, Option, None, Some, refl, ap, ap₂, sym, ◌∙◌, subst, length, map, zip, nat_eq, eqb-true, arith, true≢false}
use Rattle.std.proofs.lemmas.Bool.{and_parts}
use Rattle.cu_calculus.specs.Below.{Below, EnvBelow}
use Rattle.cu_calculus.specs.FlatProgram.{all_any}
use Rattle.cu_calculus.specs.Match.{Environment, all_matched, bind_all, both, empty}
use Rattle.cu_calculus.specs.Valid.{holds, is_linear}
use Rattle.cu_calculus.specs.Value as value
use Rattle.cu_calculus.specs.Value.{Value, Values, values_of}
use Rattle.cu_calculus.proofs.BelowLaws.{below_itself}
use Rattle.cu_calculus.proofs.FlatFitting.{nat_eq_comm}
use Rattle.cu_calculus.proofs.Matches.{bind_all_rises}
use Rattle.cu_machine.specs.Build.{Scope, place_in}
use Rattle.cu_laws.specs.Good.{Assignment, RisesTo, env_in}
use Rattle.cu_laws.proofs.Raising.{by_test}
use Rattle.cu_laws.proofs.Rising.{list_rises, zip_rises}

-- one place before another
abbrev pub or_else : Option ℕ → Option ℕ → Option ℕ
or_else (Some id) other = Some id
or_else None other = other

pub place_in_both : (scope more : Scope) (x : ℕ) → place_in (scope ++ more) x ≡ or_else (place_in more x) (place_in scope x)
place_in_both [] more x = last (place_in more x)
  where
    last : (found : Option ℕ) → found ≡ or_else found None
    last None = refl
    last (Some id) = refl
place_in_both ((y, id) ∷ scope) more x =
    ap (λ (o : Option ℕ). elim o [ Some other ↦ Some other | None ↦ if nat_eq x y then Some id else None ]) (place_in_both scope more x) ∙ go (place_in more x)
  where
    go : (found : Option ℕ)
        → (elim (or_else found (place_in scope x)) [ Some other ↦ Some other | None ↦ if nat_eq x y then Some id else None ])
        ≡ or_else found (elim (place_in scope x) [ Some other ↦ Some other | None ↦ if nat_eq x y then Some id else None ])
    go None = refl
    go (Some other) = refl

-- a variable that isn't among those of a scope has no place there
pub no_place : (xs args : List ℕ) (y : ℕ) → holds y xs ≡ false → place_in (zip xs args) y ≡ None
no_place [] args y out = refl
no_place (x ∷ xs) [] y out = refl
no_place (x ∷ xs) (arg ∷ args) y out =
    ap₂ (λ (o : Option ℕ) (b : Bool). elim o [ Some other ↦ Some other | None ↦ if b then Some arg else None ])
    (no_place xs args y (rest (nat_eq y x) out)) (first (nat_eq y x) out)
  where
    rest : (b : Bool) → (b || holds y xs) ≡ false → holds y xs ≡ false
    rest true e = absurd (true≢false e)
    rest false e = e

    first : (b : Bool) → (b || holds y xs) ≡ false → b ≡ false
    first true e = absurd (true≢false e)
    first false e = refl

abbrev pub value_or : Assignment → Value → Option ℕ → Value
value_or assigned v (Some id) = assigned id
value_or assigned v None = v

-- variables that differ stand for the values of the places beside them
pub zip_same : (assigned : Assignment) (env : Environment) (xs args : List ℕ) (y : ℕ) → is_linear xs ≡ true
    → value_or assigned (env y) (place_in (zip xs args) y) ≡ bind_all env (zip xs (map assigned args)) y
zip_same assigned env [] args y linear = refl
zip_same assigned env (x ∷ xs) [] y linear = refl
zip_same assigned env (x ∷ xs) (arg ∷ args) y linear =
    let parts = and_parts (not (holds x xs)) (is_linear xs) linear in
    let rest = bind_all env (zip xs (map assigned args)) in
    by_test (nat_eq x y) (λ b. nat_eq x y ≡ b → value_or assigned (env y) (place_in (zip (x ∷ xs) (arg ∷ args)) y) ≡ (if b then assigned arg else rest y))
    (λ same e.
    let is : x ≡ y = eqb-true x y e in
    let none : place_in (zip xs args) y ≡ None = no_place xs args y (subst (λ (z : ℕ). holds z xs ≡ false) is (not_true (holds x xs) parts.0)) in
    let place : place_in (zip (x ∷ xs) (arg ∷ args)) y ≡ Some arg =
    ap₂ (λ (o : Option ℕ) (b : Bool). elim o [ Some other ↦ Some other | None ↦ if b then Some arg else None ]) none (nat_eq_comm y x ∙ e) in
    ap (value_or assigned (env y)) place)
    (λ other e.
    let place : place_in (zip (x ∷ xs) (arg ∷ args)) y ≡ place_in (zip xs args) y =
    ap (λ (b : Bool). elim (place_in (zip xs args) y) [ Some o ↦ Some o | None ↦ if b then Some arg else None ]) (nat_eq_comm y x ∙ e) ∙ plain (place_in (zip xs args) y) in
    ap (value_or assigned (env y)) place ∙ zip_same assigned env xs args y parts.1) refl
  where
    not_true : (b : Bool) → not b ≡ true → b ≡ false
    not_true true e = absurd (true≢false (sym e))
    not_true false e = refl

    plain : (o : Option ℕ) → (elim o [ Some found ↦ Some found | None ↦ None ]) ≡ o
    plain None = refl
    plain (Some found) = refl

-- a scope with further variables
pub env_same : (assigned : Assignment) (scope : Scope) (xs args : List ℕ) (y : ℕ) → is_linear xs ≡ true
    → env_in assigned (scope ++ zip xs args) y ≡ bind_all (env_in assigned scope) (zip xs (map assigned args)) y
env_same assigned scope xs args y linear =
    subst (λ (o : Option ℕ). (elim o [ Some id ↦ assigned id | None ↦ value.Bottom ]) ≡ bind_all (env_in assigned scope) (zip xs (map assigned args)) y)
    (sym (place_in_both scope (zip xs args) y)) (go (place_in (zip xs args) y) (zip_same assigned (env_in assigned scope) xs args y linear))
  where
    go : (found : Option ℕ) → value_or assigned (env_in assigned scope y) found ≡ bind_all (env_in assigned scope) (zip xs (map assigned args)) y
        → (elim (or_else found (place_in scope y)) [ Some id ↦ assigned id | None ↦ value.Bottom ]) ≡ bind_all (env_in assigned scope) (zip xs (map assigned args)) y
    go None is = is
    go (Some id) is = is

pub env_of_both : (assigned : Assignment) (scope : Scope) (xs args : List ℕ) → is_linear xs ≡ true
    → EnvBelow (env_in assigned (scope ++ zip xs args)) (bind_all (env_in assigned scope) (zip xs (map assigned args)))
env_of_both assigned scope xs args linear y =
    subst (λ (v : Value). Below (env_in assigned (scope ++ zip xs args) y) v) (env_same assigned scope xs args y linear)
    (below_itself (env_in assigned (scope ++ zip xs args) y))

-- and bindings of such variables say no more than the scope
pub both_of_env : (assigned : Assignment) (scope : Scope) (xs args : List ℕ) → is_linear xs ≡ true
    → EnvBelow (bind_all (env_in assigned scope) (zip xs (map assigned args))) (env_in assigned (scope ++ zip xs args))
both_of_env assigned scope xs args linear y =
    subst (λ (v : Value). Below v (env_in assigned (scope ++ zip xs args) y)) (env_same assigned scope xs args y linear)
    (below_itself (env_in assigned (scope ++ zip xs args) y))

pub env_of_zip : (assigned : Assignment) (xs args : List ℕ) → is_linear xs ≡ true → EnvBelow (env_in assigned (zip xs args)) (bind_all empty (zip xs (map assigned args)))
env_of_zip assigned xs args linear = env_of_both assigned [] xs args linear

-- variables match as many values
pub any_match : (xs : List ℕ) (vs : List Value) → length xs ≡ length vs → all_matched (all_any xs) (values_of vs) ≡ Some (zip xs vs)
any_match [] [] same = refl
any_match [] (v ∷ vs) same = let no : ⊥ = omega (arith, same) in absurd no
any_match (x ∷ xs) [] same = let no : ⊥ = omega (arith, same) in absurd no
any_match (x ∷ xs) (v ∷ vs) same =
    let rest : length xs ≡ length vs = omega (arith, same) in ap (both (Some ((x, v) ∷ []))) (any_match xs vs rest)

-- what is bound to values that rise
pub kept_rise : (low high : Assignment) (xs args : List ℕ) → RisesTo low high
    → EnvBelow (bind_all empty (zip xs (map low args))) (bind_all empty (zip xs (map high args)))
kept_rise low high xs args up =
    bind_all_rises empty empty (zip xs (map low args)) (zip xs (map high args)) (λ y. below_itself value.Bottom)
    (zip_rises xs (map low args) (map high args) (list_rises low high args up))
