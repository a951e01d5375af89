-- Rows over the arguments of what stands at a position: what they match, and what their variables are called.
use Rattle.std.proofs.Common.{◌≡◌, ℕ, zero, suc, ◌<◌, ◌≤◌, ◌⊎◌, inl, inr, Bool, true, false, List, [], ◌∷◌, ◌++◌, if◌then◌else◌, length, take, drop, nat_eq, Option, Some, slice_get, refl, ap, sym, ◌∙◌, subst, arith, add-one, append_assoc, true≢false, eq-eqb, eqb-true}
use Rattle.std.proofs.lemmas.Bool.{or_from, or_parts}
use Rattle.cu_calculus.specs.Choose.{list_patterns, spliced}
use Rattle.cu_calculus.specs.Match.{Environment}
use Rattle.cu_calculus.specs.Term as term
use Rattle.cu_calculus.specs.Term.{Pattern, Patterns, Term}
use Rattle.cu_calculus.specs.Valid.{all_variables, holds, variables_of}
use Rattle.cu_calculus.specs.Value.{Value, Values, list_of}
use Rattle.cu_deftree.specs.Rows.{Names, argument_names, name_of, names_at, names_at_all}
use Rattle.cu_deftree.proofs.Meets.{AllFit, AllMeet, Fits, Meets}

-- ---- in place of one element

abbrev pub put : {A : Type 0} → ℕ → List A → List A → List A
put k mid [] = []
put zero mid (x ∷ xs) = mid ++ xs
put (suc k) mid (x ∷ xs) = x ∷ put k mid xs

pub spliced_put : {A : Type 0} (k : ℕ) (mid xs : List A) (x : A) → slice_get xs k ≡ Some x → spliced k mid xs ≡ put k mid xs
spliced_put k mid [] x e = let no : ⊥ = cc in absurd no
spliced_put zero mid (y ∷ xs) x e = refl
spliced_put {A} (suc k) mid (y ∷ xs) x e =
    ap (λ (n : ℕ). (y ∷ take k xs) ++ mid ++ drop n (y ∷ xs)) (add-one (suc k))
    ∙ ap (λ (zs : List A). y ∷ zs) (ap (λ (n : ℕ). take k xs ++ mid ++ drop n xs) (sym (add-one k)) ∙ spliced_put k mid xs x e)

meet_append : (env : Option Environment) (ps qs : List Pattern) (us vs : List Value) → AllMeet env ps us → AllMeet env qs vs
    → AllMeet env (ps ++ qs) (us ++ vs)
meet_append env [] qs [] vs h k = k
meet_append env [] qs (u ∷ us) vs h k = absurd h
meet_append env (p ∷ ps) qs [] vs h k = absurd h
meet_append env (p ∷ ps) qs (u ∷ us) vs h k = (h.0, meet_append env ps qs us vs h.1 k)

meet_parts : (env : Option Environment) (ps qs : List Pattern) (us vs : List Value) → length ps ≡ length us → AllMeet env (ps ++ qs) (us ++ vs)
    → AllMeet env ps us × AllMeet env qs vs
meet_parts env [] qs [] vs e h = (tt, h)
meet_parts env [] qs (u ∷ us) vs e h = absurd (omega arith)
meet_parts env (p ∷ ps) qs [] vs e h = absurd (omega arith)
meet_parts env (p ∷ ps) qs (u ∷ us) vs e h =
    let rest = meet_parts env ps qs us vs (omega arith) h.1 in ((h.0, rest.0), rest.1)

pub meet_put : (env : Option Environment) (k : ℕ) (mid ps : List Pattern) (args vs : List Value) → AllMeet env mid args → AllMeet env ps vs
    → AllMeet env (put k mid ps) (put k args vs)
meet_put env k mid [] args [] h e = tt
meet_put env k mid [] args (v ∷ vs) h e = absurd e
meet_put env k mid (p ∷ ps) args [] h e = absurd e
meet_put env zero mid (p ∷ ps) args (v ∷ vs) h e = meet_append env mid ps args vs h e.1
meet_put env (suc k) mid (p ∷ ps) args (v ∷ vs) h e = (e.0, meet_put env k mid ps args vs h e.1)

pub meet_at : (env : Option Environment) (k : ℕ) (ps : List Pattern) (vs : List Value) (p : Pattern) (v : Value) → slice_get ps k ≡ Some p
    → slice_get vs k ≡ Some v → AllMeet env ps vs → Meets env p v
meet_at env k [] vs p v e f h = let no : ⊥ = cc in absurd no
meet_at env k (q ∷ ps) [] p v e f h = absurd h
meet_at env zero (q ∷ ps) (w ∷ vs) p v e f h =
    let one : q ≡ p = cc in
    let other : w ≡ v = cc in
    subst (λ (x : Value). Meets env p x) other (subst (λ (x : Pattern). Meets env x w) one h.0)
meet_at env (suc k) (q ∷ ps) (w ∷ vs) p v e f h = meet_at env k ps vs p v e f h.1

pub meet_converse : (env : Option Environment) (k : ℕ) (mid ps : List Pattern) (args vs : List Value) (p : Pattern) (v : Value)
    → slice_get ps k ≡ Some p → slice_get vs k ≡ Some v → length mid ≡ length args → AllMeet env (put k mid ps) (put k args vs)
    → AllMeet env mid args × (Meets env p v → AllMeet env ps vs)
meet_converse env k mid [] args vs p v e f n h = let no : ⊥ = cc in absurd no
meet_converse env k mid (q ∷ ps) args [] p v e f n h = let no : ⊥ = cc in absurd no
meet_converse env zero mid (q ∷ ps) args (w ∷ vs) p v e f n h =
    let one : p ≡ q = cc in
    let other : v ≡ w = cc in
    let parts = meet_parts env mid ps args vs n h in
    (parts.0, λ m. (subst (λ (x : Value). Meets env q x) other (subst (λ (x : Pattern). Meets env x v) one m), parts.1))
meet_converse env (suc k) mid (q ∷ ps) args (w ∷ vs) p v e f n h =
    let rest = meet_converse env k mid ps args vs p v e f n h.1 in (rest.0, λ m. (h.0, rest.1 m))

-- ---- variables at positions

-- variables that have these values
abbrev pub At : Environment → List ℕ → List Value → Type 0
At env [] [] = Unit {0}
At env (x ∷ xs) (v ∷ vs) = (env x ≡ v) × At env xs vs
At env [] (v ∷ vs) = ⊥
At env (x ∷ xs) [] = ⊥

abbrev pub AllLow : ℕ → List ℕ → Type 0
AllLow next [] = Unit {0}
AllLow next (x ∷ xs) = (x < next) × AllLow next xs

at_append : (env : Environment) (xs ys : List ℕ) (us vs : List Value) → At env xs us → At env ys vs → At env (xs ++ ys) (us ++ vs)
at_append env [] ys [] vs h k = k
at_append env [] ys (u ∷ us) vs h k = absurd h
at_append env (x ∷ xs) ys [] vs h k = absurd h
at_append env (x ∷ xs) ys (u ∷ us) vs h k = (h.0, at_append env xs ys us vs h.1 k)

pub at_put : (env : Environment) (k : ℕ) (new xs : List ℕ) (args vs : List Value) → At env new args → At env xs vs
    → At env (put k new xs) (put k args vs)
at_put env k new [] args [] h e = tt
at_put env k new [] args (v ∷ vs) h e = absurd e
at_put env k new (x ∷ xs) args [] h e = absurd e
at_put env zero new (x ∷ xs) args (v ∷ vs) h e = at_append env new xs args vs h e.1
at_put env (suc k) new (x ∷ xs) args (v ∷ vs) h e = (e.0, at_put env k new xs args vs h e.1)

pub at_place : (env : Environment) (k : ℕ) (xs : List ℕ) (vs : List Value) (x : ℕ) → slice_get xs k ≡ Some x → At env xs vs
    → slice_get vs k ≡ Some (env x)
at_place env k [] vs x e h = let no : ⊥ = cc in absurd no
at_place env k (y ∷ xs) [] x e h = absurd h
at_place env zero (y ∷ xs) (v ∷ vs) x e h = let same : y ≡ x = cc in ap Some (sym h.0 ∙ ap env same)
at_place env (suc k) (y ∷ xs) (v ∷ vs) x e h = at_place env k xs vs x e h.1

pub low_place : (next k : ℕ) (xs : List ℕ) (x : ℕ) → slice_get xs k ≡ Some x → AllLow next xs → x < next
low_place next k [] x e h = let no : ⊥ = cc in absurd no
low_place next zero (y ∷ xs) x e h = let same : y ≡ x = cc in subst (λ (z : ℕ). z < next) same h.0
low_place next (suc k) (y ∷ xs) x e h = low_place next k xs x e h.1

low_append : (next : ℕ) (xs ys : List ℕ) → AllLow next xs → AllLow next ys → AllLow next (xs ++ ys)
low_append next [] ys h k = k
low_append next (x ∷ xs) ys h k = (h.0, low_append next xs ys h.1 k)

pub low_put : (next k : ℕ) (new xs : List ℕ) → AllLow next new → AllLow next xs → AllLow next (put k new xs)
low_put next k new [] h e = tt
low_put next zero new (x ∷ xs) h e = low_append next new xs h e.1
low_put next (suc k) new (x ∷ xs) h e = (e.0, low_put next k new xs h e.1)

pub low_more : (next more : ℕ) (xs : List ℕ) → next ≤ more → AllLow next xs → AllLow more xs
low_more next more [] l h = tt
low_more next more (x ∷ xs) l h = (omega arith, low_more next more xs l h.1)

-- two environments have the same below a number
abbrev pub SameBelow : ℕ → Environment → Environment → Type 0
SameBelow next one two = (x : ℕ) → x < next → one x ≡ two x

pub at_same : (next : ℕ) (one two : Environment) (xs : List ℕ) (vs : List Value) → SameBelow next one two → AllLow next xs → At one xs vs
    → At two xs vs
at_same next one two [] [] s l h = tt
at_same next one two [] (v ∷ vs) s l h = absurd h
at_same next one two (x ∷ xs) [] s l h = absurd h
at_same next one two (x ∷ xs) (v ∷ vs) s l h = (sym (s x l.0) ∙ h.0, at_same next one two xs vs s l.1 h.1)

-- ---- names

abbrev pub Low : ℕ → Names → Type 0
Low next names = (x : ℕ) → name_of names x < next

low_if : (b : Bool) (next x y : ℕ) → x < next → y < next → (if b then x else y) < next
low_if true next x y h k = h
low_if false next x y h k = k

pub low_cons : (next x z : ℕ) (names : Names) → z < next → Low next names → Low next ((x, z) ∷ names)
low_cons next x z names l h y = low_if (nat_eq x y) next z (name_of names y) l (h y)

pub low_names_at : (next position : ℕ) (p : Pattern) (names : Names) → position < next → Low next names → Low next (names_at position p ++ names)
low_names_at next position (term.Any x) names l h = low_cons next x position names l h
low_names_at next position (term.Named x p) names l h =
    low_cons next x position (names_at position p ++ names) l (low_names_at next position p names l h)
low_names_at next position (term.Exactly m) names l h = h
low_names_at next position (term.Built c ps) names l h = h

pub low_names_at_all : (next : ℕ) (positions : List ℕ) (ps : List Pattern) (names : Names) → AllLow next positions → Low next names
    → Low next (names_at_all positions ps ++ names)
low_names_at_all next [] ps names l h = h
low_names_at_all next (x ∷ xs) [] names l h = h
low_names_at_all next (x ∷ xs) (p ∷ ps) names l h =
    subst (λ (ns : Names). Low next ns) (sym (append_assoc (names_at x p) (names_at_all xs ps) names))
    (low_names_at next x p (names_at_all xs ps ++ names) l.0 (low_names_at_all next xs ps names l.1 h))

pub low_argument_names : (next : ℕ) (positions : List ℕ) (p : Pattern) (names : Names) → AllLow next positions → Low next names
    → Low next (argument_names positions p ++ names)
low_argument_names next positions (term.Any x) names l h = h
low_argument_names next positions (term.Named x p) names l h = low_argument_names next positions p names l h
low_argument_names next positions (term.Exactly m) names l h = h
low_argument_names next positions (term.Built c ps) names l h = low_names_at_all next positions (list_patterns ps) names l h

-- the variables inside a pattern, which have no name yet where it stands at a position
abbrev pub inner : Pattern → List ℕ
inner (term.Any x) = []
inner (term.Named x p) = inner p
inner (term.Exactly l) = []
inner (term.Built c ps) = all_variables ps

abbrev pub inner_all : List Pattern → List ℕ
inner_all [] = []
inner_all (p ∷ ps) = inner p ++ inner_all ps

pub holds_append : (x : ℕ) (xs ys : List ℕ) → holds x (xs ++ ys) ≡ false → (holds x xs ≡ false) × (holds x ys ≡ false)
holds_append x [] ys h = (refl, h)
holds_append x (y ∷ xs) ys h =
    let parts = or_parts (nat_eq x y) (holds x (xs ++ ys)) h in
    let rest = holds_append x xs ys parts.1 in
    (or_from (nat_eq x y) (holds x xs) parts.0 rest.0, rest.1)

pub holds_both : (x : ℕ) (xs ys : List ℕ) → holds x xs ≡ false → holds x ys ≡ false → holds x (xs ++ ys) ≡ false
holds_both x [] ys h k = k
holds_both x (y ∷ xs) ys h k =
    let parts = or_parts (nat_eq x y) (holds x xs) h in
    or_from (nat_eq x y) (holds x (xs ++ ys)) parts.0 (holds_both x xs ys parts.1 k)

inner_parts : (x : ℕ) (ps qs : List Pattern) → holds x (inner_all (ps ++ qs)) ≡ false
    → (holds x (inner_all ps) ≡ false) × (holds x (inner_all qs) ≡ false)
inner_parts x [] qs h = (refl, h)
inner_parts x (p ∷ ps) qs h =
    let parts = holds_append x (inner p) (inner_all (ps ++ qs)) h in
    let rest = inner_parts x ps qs parts.1 in
    (holds_both x (inner p) (inner_all ps) parts.0 rest.0, rest.1)

pub inner_put : (x k : ℕ) (mid ps : List Pattern) (p : Pattern) → slice_get ps k ≡ Some p → holds x (inner_all (put k mid ps)) ≡ false
    → (holds x (inner_all mid) ≡ false) × (holds x (inner p) ≡ false → holds x (inner_all ps) ≡ false)
inner_put x k mid [] p e h = let no : ⊥ = cc in absurd no
inner_put x zero mid (q ∷ ps) p e h =
    let same : p ≡ q = cc in
    let parts = inner_parts x mid ps h in
    (parts.0, λ i. holds_both x (inner q) (inner_all ps) (subst (λ (r : Pattern). holds x (inner r) ≡ false) same i) parts.1)
inner_put x (suc k) mid (q ∷ ps) p e h =
    let parts = holds_append x (inner q) (inner_all (put k mid ps)) h in
    let rest = inner_put x k mid ps p e parts.1 in
    (rest.0, λ i. holds_both x (inner q) (inner_all ps) parts.0 (rest.1 i))

-- A variable has its name among those at positions, or is called as before and stands in none of the patterns.
abbrev pub Known : Environment → Environment → Names → Names → ℕ → List ℕ → Type 0
Known E env named names x xs =
    (E x ≡ env (name_of named x)) ⊎ ((name_of named x ≡ name_of names x) × (holds x xs ≡ false))

known_cons : (E env : Environment) (rest names : Names) (x y position : ℕ) (xs : List ℕ) → E y ≡ env position → Known E env rest names x xs
    → Known E env ((y, position) ∷ rest) names x (y ∷ xs)
known_cons E env rest names x y position xs e h = by (nat_eq y x) refl
  where
    by : (b : Bool) → nat_eq y x ≡ b → Known E env ((y, position) ∷ rest) names x (y ∷ xs)
    by true f =
        let same : y ≡ x = eqb-true y x f in
        let name : name_of ((y, position) ∷ rest) x ≡ position = ap (λ (b : Bool). if b then position else name_of rest x) f in
        inl (sym (ap E same) ∙ e ∙ ap env (sym name))
    by false f =
        let name : name_of ((y, position) ∷ rest) x ≡ name_of rest x = ap (λ (b : Bool). if b then position else name_of rest x) f in
        rest_is name h
      where
        swapped : nat_eq x y ≡ false
        swapped = other (nat_eq x y) refl
          where
            other : (b : Bool) → nat_eq x y ≡ b → b ≡ false
            other true g = absurd (true≢false (sym (eq-eqb y x (sym (eqb-true x y g))) ∙ f))
            other false g = refl

        rest_is : name_of ((y, position) ∷ rest) x ≡ name_of rest x → Known E env rest names x xs
            → Known E env ((y, position) ∷ rest) names x (y ∷ xs)
        rest_is name (inl known) = inl (known ∙ ap env (sym name))
        rest_is name (inr new) = inr (name ∙ new.0, or_from (nat_eq x y) (holds x xs) swapped new.1)

-- names at one position
pub known_at : (E env : Environment) (position : ℕ) (p : Pattern) (v : Value) (names : Names) (x : ℕ) → Fits (Some E) p v → env position ≡ v
    → holds x (inner p) ≡ false → Known E env (names_at position p ++ names) names x (variables_of p)
known_at E env position (term.Any y) v names x f e h = known_cons E env names names x y position [] (f ∙ sym e) (inr (refl, refl))
known_at E env position (term.Named y p) v names x f e h =
    known_cons E env (names_at position p ++ names) names x y position (variables_of p) (f.0 ∙ sym e)
    (known_at E env position p v names x f.1 e h)
known_at E env position (term.Exactly l) v names x f e h = inr (refl, refl)
known_at E env position (term.Built c ps) v names x f e h = inr (refl, h)

known_both : (E env : Environment) (outer rest names : Names) (x : ℕ) (xs ys : List ℕ) → Known E env outer rest x xs → Known E env rest names x ys
    → Known E env outer names x (xs ++ ys)
known_both E env outer rest names x xs ys (inl known) k = inl known
known_both E env outer rest names x xs ys (inr new) (inl known) = inl (known ∙ ap env (sym new.0))
known_both E env outer rest names x xs ys (inr new) (inr more) = inr (new.0 ∙ more.0, holds_both x xs ys new.1 more.1)

-- names at several positions
pub known_all : (E env : Environment) (positions : List ℕ) (ps : Patterns) (vs : Values) (names : Names) (x : ℕ) → AllFit (Some E) ps vs
    → At env positions (list_of vs) → holds x (inner_all (list_patterns ps)) ≡ false
    → Known E env (names_at_all positions (list_patterns ps) ++ names) names x (all_variables ps)
known_all E env [] term.NoPattern vs names x f a h = inr (refl, refl)
known_all E env (y ∷ ys) term.NoPattern vs names x f a h = inr (refl, refl)
known_all E env [] (term.MorePatterns p ps) vs names x f a h = absurd (subst (λ (us : Values). At env [] (list_of us)) f.2 a)
known_all E env (y ∷ ys) (term.MorePatterns p ps) vs names x f a h =
    let parts = holds_append x (inner p) (inner_all (list_patterns ps)) h in
    let places = subst (λ (us : Values). At env (y ∷ ys) (list_of us)) f.2 a in
    let rest = names_at_all ys (list_patterns ps) ++ names in
    subst (λ (ns : Names). Known E env ns names x (variables_of p ++ all_variables ps))
    (sym (append_assoc (names_at y p) (names_at_all ys (list_patterns ps)) names))
    (known_both E env (names_at y p ++ rest) rest names x (variables_of p) (all_variables ps)
    (known_at E env y p f.0 rest x f.3 places.0 parts.0) (known_all E env ys ps f.1 names x f.4 places.1 parts.1))
