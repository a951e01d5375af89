-- What lowering gives of a valid program is valid: heads have as many arguments as before, and each variable is bound.
use Rattle.std.proofs.Common.{◌≡◌, ℕ, zero, suc, ◌+◌, ◌<◌, ◌⊎◌, inl, inr, Bool, true, false, ◌||◌, List, [], ◌∷◌, ◌++◌, cond, if◌then◌else◌, filter, length, map, nat_eq, None, Some, slice_get, IsTrue, refl, ap, sym, ◌∙◌, subst, arith, eq-eqb, eqb-true, true≢false}
use Rattle.cu_calculus.specs.Choose.{Demand, arguments_of, demand_of, leftmost, list_patterns}
use Rattle.cu_calculus.specs.Program.{Program}
use Rattle.cu_calculus.specs.Term as term
use Rattle.cu_calculus.specs.Term.{Alternatives, Pattern, Patterns, Term, Terms}
use Rattle.cu_calculus.specs.Valid.{all_variables, also, also_all, fits_pattern, fits_term, holds, variables_of}
use Rattle.cu_deftree.specs.Rows.{Names, Row, argument_names, demand_at, name_of, names_at, names_at_all, numbers, specialize, specialized}
use Rattle.cu_deftree.proofs.Converse.{none_inside}
use Rattle.cu_deftree.proofs.Opening.{inner, inner_all, put}
use Rattle.cu_deftree.proofs.Suits.{RowsFit, demand_is, opened, pattern_fits, specialized_is, there_too}

-- ---- what a list holds

pub or_cases : (a b : Bool) → (a || b) ≡ true → (a ≡ true) ⊎ (b ≡ true)
or_cases true b e = inl refl
or_cases false b e = inr e

pub or_first : (a b : Bool) → a ≡ true → (a || b) ≡ true
or_first true b e = refl
or_first false b e = let no : ⊥ = cc in absurd no

pub or_second : (a b : Bool) → b ≡ true → (a || b) ≡ true
or_second true b e = refl
or_second false b e = e

pub holds_in : (x : ℕ) (xs ys : List ℕ) → holds x (xs ++ ys) ≡ true → (holds x xs ≡ true) ⊎ (holds x ys ≡ true)
holds_in x [] ys h = inr h
holds_in x (y ∷ xs) ys h = by (or_cases (nat_eq x y) (holds x (xs ++ ys)) h) (holds_in x xs ys)
  where
    by : (nat_eq x y ≡ true) ⊎ (holds x (xs ++ ys) ≡ true) → (holds x (xs ++ ys) ≡ true → (holds x xs ≡ true) ⊎ (holds x ys ≡ true))
        → (holds x (y ∷ xs) ≡ true) ⊎ (holds x ys ≡ true)
    by (inl here) later = inl (or_first (nat_eq x y) (holds x xs) here)
    by (inr there) later = further (later there)
      where
        further : (holds x xs ≡ true) ⊎ (holds x ys ≡ true) → (holds x (y ∷ xs) ≡ true) ⊎ (holds x ys ≡ true)
        further (inl k) = inl (or_second (nat_eq x y) (holds x xs) k)
        further (inr k) = inr k

holds_left : (x : ℕ) (xs ys : List ℕ) → holds x xs ≡ true → holds x (xs ++ ys) ≡ true
holds_left x [] ys h = let no : ⊥ = cc in absurd no
holds_left x (y ∷ xs) ys h = by (or_cases (nat_eq x y) (holds x xs) h) (holds_left x xs ys)
  where
    by : (nat_eq x y ≡ true) ⊎ (holds x xs ≡ true) → (holds x xs ≡ true → holds x (xs ++ ys) ≡ true) → holds x (y ∷ (xs ++ ys)) ≡ true
    by (inl here) later = or_first (nat_eq x y) (holds x (xs ++ ys)) here
    by (inr there) later = or_second (nat_eq x y) (holds x (xs ++ ys)) (later there)

holds_right : (x : ℕ) (xs ys : List ℕ) → holds x ys ≡ true → holds x (xs ++ ys) ≡ true
holds_right x [] ys h = h
holds_right x (y ∷ xs) ys h = or_second (nat_eq x y) (holds x (xs ++ ys)) (holds_right x xs ys h)

pub holds_below : (x from n : ℕ) → holds x (numbers from n) ≡ true → x < from + n
holds_below x from zero h = let no : ⊥ = cc in absurd no
holds_below x from (suc n) h = by (or_cases (nat_eq x from) (holds x (numbers (suc from) n)) h) (holds_below x (suc from) n)
  where
    by : (nat_eq x from ≡ true) ⊎ (holds x (numbers (suc from) n) ≡ true) → (holds x (numbers (suc from) n) ≡ true → x < suc from + n)
        → x < from + suc n
    by (inl here) later = let same = eqb-true x from here in omega arith
    by (inr there) later = let less = later there in omega arith

-- ---- variables that may stand

-- all of these may stand
abbrev pub AllMay : (ℕ → Bool) → List ℕ → Type 0
AllMay may [] = Unit {0}
AllMay may (x ∷ xs) = (may x ≡ true) × AllMay may xs

abbrev pub Within : (ℕ → Bool) → (ℕ → Bool) → Type 0
Within may wide = (x : ℕ) → may x ≡ true → wide x ≡ true

abbrev pub Under : ℕ → (ℕ → Bool) → Type 0
Under next may = (x : ℕ) → may x ≡ true → x < next

pub all_within : (may wide : ℕ → Bool) (xs : List ℕ) → Within may wide → AllMay may xs → AllMay wide xs
all_within may wide [] w h = tt
all_within may wide (x ∷ xs) w h = (w x h.0, all_within may wide xs w h.1)

pub all_held : (xs : List ℕ) → AllMay (λ y. holds y xs) xs
all_held [] = tt
all_held (x ∷ xs) = (
  or_first (nat_eq x x) (holds x xs) (eq-eqb x x refl),
  all_within (λ y. holds y xs) (λ y. holds y (x ∷ xs)) xs (λ y. or_second (nat_eq y x) (holds y xs)) (all_held xs),
)

may_append : (may : ℕ → Bool) (xs ys : List ℕ) → AllMay may xs → AllMay may ys → AllMay may (xs ++ ys)
may_append may [] ys h k = k
may_append may (x ∷ xs) ys h k = (h.0, may_append may xs ys h.1 k)

pub may_put : (may : ℕ → Bool) (k : ℕ) (new xs : List ℕ) → AllMay may new → AllMay may xs → AllMay may (put k new xs)
may_put may k new [] h e = tt
may_put may zero new (x ∷ xs) h e = may_append may new xs h e.1
may_put may (suc k) new (x ∷ xs) h e = (e.0, may_put may k new xs h e.1)

pub may_at : (may : ℕ → Bool) (k : ℕ) (xs : List ℕ) (x : ℕ) → slice_get xs k ≡ Some x → AllMay may xs → may x ≡ true
may_at may k [] x e h = let no : ⊥ = cc in absurd no
may_at may zero (y ∷ xs) x e h = let same : y ≡ x = cc in ap may (sym same) ∙ h.0
may_at may (suc k) (y ∷ xs) x e h = may_at may k xs x e h.1

-- the variables around a branch, and those that it binds
pub within_also : (xs : List ℕ) (may : ℕ → Bool) → Within may (also_all xs may)
within_also xs may x h = or_second (holds x xs) (may x) h

pub new_may : (xs : List ℕ) (may : ℕ → Bool) → AllMay (also_all xs may) xs
new_may xs may = all_within (λ y. holds y xs) (also_all xs may) xs (λ y h. or_first (holds y xs) (may y) h) (all_held xs)

pub under_also : (next n : ℕ) (may : ℕ → Bool) → Under next may → Under (next + n) (also_all (numbers next n) may)
under_also next n may under x h = by (or_cases (holds x (numbers next n)) (may x) h)
  where
    by : (holds x (numbers next n) ≡ true) ⊎ (may x ≡ true) → x < next + n
    by (inl new) = holds_below x next n new
    by (inr old) = let l = under x old in omega arith

pub under_one : (next : ℕ) (may : ℕ → Bool) → Under next may → Under (suc next) (also next may)
under_one next may under x h = by (or_cases (nat_eq next x) (may x) h)
  where
    by : (nat_eq next x ≡ true) ⊎ (may x ≡ true) → x < suc next
    by (inl new) = let same = eqb-true next x new in omega arith
    by (inr old) = let l = under x old in omega arith

-- ---- names

-- the variables that names are for
abbrev named_in : Names → List ℕ
named_in names = map (λ n. n.0) names

abbrev TargetsMay : (ℕ → Bool) → Names → Type 0
TargetsMay may [] = Unit {0}
TargetsMay may (n ∷ names) = (may n.1 ≡ true) × TargetsMay may names

-- more names, of which all may stand
pub more_names : (may : ℕ → Bool) (more names : Names) (x : ℕ) → TargetsMay may more → may (name_of names x) ≡ true
    → may (name_of (more ++ names) x) ≡ true
more_names may [] names x h e = e
more_names may (n ∷ more) names x h e = by (nat_eq n.0 x) (more_names may more names x h.1 e)
  where
    by : (b : Bool) → may (name_of (more ++ names) x) ≡ true → may (if b then n.1 else name_of (more ++ names) x) ≡ true
    by true rest = h.0
    by false rest = rest

swapped : (x y : ℕ) → nat_eq x y ≡ true → nat_eq y x ≡ true
swapped x y e = eq-eqb y x (sym (eqb-true x y e))

pub new_names : (may : ℕ → Bool) (more names : Names) (x : ℕ) → TargetsMay may more → holds x (named_in more) ≡ true
    → may (name_of (more ++ names) x) ≡ true
new_names may [] names x h e = let no : ⊥ = cc in absurd no
new_names may (n ∷ more) names x h e = by (nat_eq n.0 x) refl (or_cases (nat_eq x n.0) (holds x (named_in more)) e) (new_names may more names x h.1)
  where
    by : (b : Bool) → nat_eq n.0 x ≡ b → (nat_eq x n.0 ≡ true) ⊎ (holds x (named_in more) ≡ true)
        → (holds x (named_in more) ≡ true → may (name_of (more ++ names) x) ≡ true) → may (if b then n.1 else name_of (more ++ names) x) ≡ true
    by true f found later = h.0
    by false f (inl here) later = absurd (true≢false (sym (swapped x n.0 here) ∙ f))
    by false f (inr there) later = later there

targets_append : (may : ℕ → Bool) (one two : Names) → TargetsMay may one → TargetsMay may two → TargetsMay may (one ++ two)
targets_append may [] two h k = k
targets_append may (n ∷ one) two h k = (h.0, targets_append may one two h.1 k)

pub targets_at : (may : ℕ → Bool) (position : ℕ) (p : Pattern) → may position ≡ true → TargetsMay may (names_at position p)
targets_at may position (term.Any x) h = (h, tt)
targets_at may position (term.Named x p) h = (h, targets_at may position p h)
targets_at may position (term.Exactly l) h = tt
targets_at may position (term.Built c ps) h = tt

pub targets_at_all : (may : ℕ → Bool) (positions : List ℕ) (ps : List Pattern) → AllMay may positions → TargetsMay may (names_at_all positions ps)
targets_at_all may [] [] h = tt
targets_at_all may [] (p ∷ ps) h = tt
targets_at_all may (x ∷ xs) [] h = tt
targets_at_all may (x ∷ xs) (p ∷ ps) h = targets_append may (names_at x p) (names_at_all xs ps) (targets_at may x p h.0) (targets_at_all may xs ps h.1)

targets_of : (may : ℕ → Bool) (positions : List ℕ) (p : Pattern) → AllMay may positions → TargetsMay may (argument_names positions p)
targets_of may positions (term.Any x) h = tt
targets_of may positions (term.Named x p) h = targets_of may positions p h
targets_of may positions (term.Exactly l) h = tt
targets_of may positions (term.Built c ps) h = targets_at_all may positions (list_patterns ps) h

named_append : (one two : Names) → named_in (one ++ two) ≡ named_in one ++ named_in two
named_append [] two = refl
named_append (n ∷ one) two = ap (λ xs. n.0 ∷ xs) (named_append one two)

-- a variable of a pattern is named at its position, or stands inside
pub variable_named : (x position : ℕ) (p : Pattern) → holds x (variables_of p) ≡ true
    → (holds x (named_in (names_at position p)) ≡ true) ⊎ (holds x (inner p) ≡ true)
variable_named x position (term.Any y) h = inl h
variable_named x position (term.Named y p) h = by (or_cases (nat_eq x y) (holds x (variables_of p)) h) (variable_named x position p)
  where
    by : (nat_eq x y ≡ true) ⊎ (holds x (variables_of p) ≡ true)
        → (holds x (variables_of p) ≡ true → (holds x (named_in (names_at position p)) ≡ true) ⊎ (holds x (inner p) ≡ true))
        → (holds x (y ∷ named_in (names_at position p)) ≡ true) ⊎ (holds x (inner p) ≡ true)
    by (inl here) later = inl (or_first (nat_eq x y) (holds x (named_in (names_at position p))) here)
    by (inr there) later = further (later there)
      where
        further : (holds x (named_in (names_at position p)) ≡ true) ⊎ (holds x (inner p) ≡ true)
            → (holds x (y ∷ named_in (names_at position p)) ≡ true) ⊎ (holds x (inner p) ≡ true)
        further (inl k) = inl (or_second (nat_eq x y) (holds x (named_in (names_at position p))) k)
        further (inr k) = inr k
variable_named x position (term.Exactly l) h = inr h
variable_named x position (term.Built c ps) h = inr h

pub variables_named : (x : ℕ) (positions : List ℕ) (ps : Patterns) → length (list_patterns ps) ≡ length positions → holds x (all_variables ps) ≡ true
    → (holds x (named_in (names_at_all positions (list_patterns ps))) ≡ true) ⊎ (holds x (inner_all (list_patterns ps)) ≡ true)
variables_named x positions term.NoPattern l h = let no : ⊥ = cc in absurd no
variables_named x [] (term.MorePatterns p ps) l h = absurd (omega arith)
variables_named x (y ∷ ys) (term.MorePatterns p ps) l h =
    by (holds_in x (variables_of p) (all_variables ps) h) (variable_named x y p) (variables_named x ys ps (omega arith))
  where
    prefix : List ℕ
    prefix = named_in (names_at y p)

    rest : List ℕ
    rest = named_in (names_at_all ys (list_patterns ps))

    whole : holds x (prefix ++ rest) ≡ true → holds x (named_in (names_at y p ++ names_at_all ys (list_patterns ps))) ≡ true
    whole k = ap (holds x) (named_append (names_at y p) (names_at_all ys (list_patterns ps))) ∙ k

    by : (holds x (variables_of p) ≡ true) ⊎ (holds x (all_variables ps) ≡ true)
        → (holds x (variables_of p) ≡ true → (holds x prefix ≡ true) ⊎ (holds x (inner p) ≡ true))
        → (holds x (all_variables ps) ≡ true → (holds x rest ≡ true) ⊎ (holds x (inner_all (list_patterns ps)) ≡ true))
        → (holds x (named_in (names_at y p ++ names_at_all ys (list_patterns ps))) ≡ true) ⊎ (holds x (inner p ++ inner_all (list_patterns ps)) ≡ true)
    by (inl here) one more = first (one here)
      where
        first : (holds x prefix ≡ true) ⊎ (holds x (inner p) ≡ true)
            → (holds x (named_in (names_at y p ++ names_at_all ys (list_patterns ps))) ≡ true) ⊎ (holds x (inner p ++ inner_all (list_patterns ps)) ≡ true)
        first (inl k) = inl (whole (holds_left x prefix rest k))
        first (inr k) = inr (holds_left x (inner p) (inner_all (list_patterns ps)) k)
    by (inr there) one more = second (more there)
      where
        second : (holds x rest ≡ true) ⊎ (holds x (inner_all (list_patterns ps)) ≡ true)
            → (holds x (named_in (names_at y p ++ names_at_all ys (list_patterns ps))) ≡ true) ⊎ (holds x (inner p ++ inner_all (list_patterns ps)) ≡ true)
        second (inl k) = inl (whole (holds_right x prefix rest k))
        second (inr k) = inr (holds_right x (inner p) (inner_all (list_patterns ps)) k)

inner_named : (x : ℕ) (positions : List ℕ) (p : Pattern) → length (arguments_of (length positions) p) ≡ length positions → holds x (inner p) ≡ true
    → (holds x (named_in (argument_names positions p)) ≡ true) ⊎ (holds x (inner_all (arguments_of (length positions) p)) ≡ true)
inner_named x positions (term.Any y) l h = let no : ⊥ = cc in absurd no
inner_named x positions (term.Named y p) l h = inner_named x positions p l h
inner_named x positions (term.Exactly m) l h = let no : ⊥ = cc in absurd no
inner_named x positions (term.Built c ps) l h = variables_named x positions ps l h

-- ---- what stands inside the patterns of an opened row

inner_in : (x : ℕ) (ps qs : List Pattern) → holds x (inner_all qs) ≡ true → holds x (inner_all (ps ++ qs)) ≡ true
inner_in x [] qs h = h
inner_in x (p ∷ ps) qs h = holds_right x (inner p) (inner_all (ps ++ qs)) (inner_in x ps qs h)

inner_prefix : (x : ℕ) (ps qs : List Pattern) → holds x (inner_all ps) ≡ true → holds x (inner_all (ps ++ qs)) ≡ true
inner_prefix x [] qs h = let no : ⊥ = cc in absurd no
inner_prefix x (p ∷ ps) qs h = by (holds_in x (inner p) (inner_all ps) h) (inner_prefix x ps qs)
  where
    by : (holds x (inner p) ≡ true) ⊎ (holds x (inner_all ps) ≡ true) → (holds x (inner_all ps) ≡ true → holds x (inner_all (ps ++ qs)) ≡ true)
        → holds x (inner p ++ inner_all (ps ++ qs)) ≡ true
    by (inl here) later = holds_left x (inner p) (inner_all (ps ++ qs)) here
    by (inr there) later = holds_right x (inner p) (inner_all (ps ++ qs)) (later there)

inner_middle : (x k : ℕ) (mid ps : List Pattern) (p : Pattern) → slice_get ps k ≡ Some p → holds x (inner_all mid) ≡ true
    → holds x (inner_all (put k mid ps)) ≡ true
inner_middle x k mid [] p e h = let no : ⊥ = cc in absurd no
inner_middle x zero mid (q ∷ ps) p e h = inner_prefix x mid ps h
inner_middle x (suc k) mid (q ∷ ps) p e h = holds_right x (inner q) (inner_all (put k mid ps)) (inner_middle x k mid ps p e h)

inner_still : (x k : ℕ) (mid ps : List Pattern) (p : Pattern) → slice_get ps k ≡ Some p → holds x (inner_all ps) ≡ true
    → (holds x (inner p) ≡ true) ⊎ (holds x (inner_all (put k mid ps)) ≡ true)
inner_still x k mid [] p e h = let no : ⊥ = cc in absurd no
inner_still x zero mid (q ∷ ps) p e h = by (holds_in x (inner q) (inner_all ps) h)
  where
    by : (holds x (inner q) ≡ true) ⊎ (holds x (inner_all ps) ≡ true) → (holds x (inner p) ≡ true) ⊎ (holds x (inner_all (mid ++ ps)) ≡ true)
    by (inl here) = let same : p ≡ q = cc in inl (ap (λ (r : Pattern). holds x (inner r)) same ∙ here)
    by (inr there) = inr (inner_in x mid ps there)
inner_still x (suc k) mid (q ∷ ps) p e h = by (holds_in x (inner q) (inner_all ps) h) (inner_still x k mid ps p e)
  where
    by : (holds x (inner q) ≡ true) ⊎ (holds x (inner_all ps) ≡ true)
        → (holds x (inner_all ps) ≡ true → (holds x (inner p) ≡ true) ⊎ (holds x (inner_all (put k mid ps)) ≡ true))
        → (holds x (inner p) ≡ true) ⊎ (holds x (inner q ++ inner_all (put k mid ps)) ≡ true)
    by (inl here) later = inr (holds_left x (inner q) (inner_all (put k mid ps)) here)
    by (inr there) later = further (later there)
      where
        further : (holds x (inner p) ≡ true) ⊎ (holds x (inner_all (put k mid ps)) ≡ true)
            → (holds x (inner p) ≡ true) ⊎ (holds x (inner q ++ inner_all (put k mid ps)) ≡ true)
        further (inl a) = inl a
        further (inr a) = inr (holds_right x (inner q) (inner_all (put k mid ps)) a)

-- ---- rows whose variables are known

-- Each variable of the right side has a name that may stand, or stands inside a pattern.
pub record RowSees (program : Program) (may : ℕ → Bool) (row : Row) : Type 0 where
  pub source : ℕ → Bool
  pub fits : IsTrue (fits_term program source row.body)
  pub sees : (x : ℕ) → source x ≡ true → (holds x (inner_all row.patterns) ≡ true) ⊎ (may (name_of row.names x) ≡ true)

abbrev pub RowsSee : Program → (ℕ → Bool) → List Row → Type 0
RowsSee program may [] = Unit {0}
RowsSee program may (row ∷ rows) = RowSees program may row × RowsSee program may rows

row_opened : (program : Program) (may wide : ℕ → Bool) (k : ℕ) (new : List ℕ) (p : Pattern) (row : Row) → Within may wide → AllMay wide new
    → slice_get row.patterns k ≡ Some p → length (arguments_of (length new) p) ≡ length new → RowSees program may row
    → RowSees program wide (opened k new p row)
row_opened program may wide k new p row w news e many sees = record {
  source = sees.source;
  fits = sees.fits;
  sees = λ x h. by x (sees.sees x h);
}
  where
    args : List Pattern
    args = arguments_of (length new) p

    by : (x : ℕ) → (holds x (inner_all row.patterns) ≡ true) ⊎ (may (name_of row.names x) ≡ true)
        → (holds x (inner_all (put k args row.patterns)) ≡ true) ⊎ (wide (name_of (argument_names new p ++ row.names) x) ≡ true)
    by x (inr named) = inr (more_names wide (argument_names new p) row.names x (targets_of wide new p news) (w (name_of row.names x) named))
    by x (inl inside) = at (inner_still x k args row.patterns p e inside)
      where
        at : (holds x (inner p) ≡ true) ⊎ (holds x (inner_all (put k args row.patterns)) ≡ true)
            → (holds x (inner_all (put k args row.patterns)) ≡ true) ⊎ (wide (name_of (argument_names new p ++ row.names) x) ≡ true)
        at (inr still) = inl still
        at (inl here) = deeper (inner_named x new p many here)
          where
            deeper : (holds x (named_in (argument_names new p)) ≡ true) ⊎ (holds x (inner_all args) ≡ true)
                → (holds x (inner_all (put k args row.patterns)) ≡ true) ⊎ (wide (name_of (argument_names new p ++ row.names) x) ≡ true)
            deeper (inl named) = inr (new_names wide (argument_names new p) row.names x (targets_of wide new p news) named)
            deeper (inr inside) = inl (inner_middle x k args row.patterns p e inside)

-- the rows of a branch
pub rows_opened : (program : Program) (may wide : ℕ → Bool) (positions : List ℕ) (next k position : ℕ) (new : List ℕ) (test : Demand → Bool)
    (rows : List Row) → Within may wide → AllMay wide new → slice_get positions k ≡ Some position
    → ((p : Pattern) → test (demand_of p) ≡ true → IsTrue (fits_pattern program p) → length (arguments_of (length new) p) ≡ length new)
    → RowsFit program positions next rows → RowsSee program may rows → RowsSee program wide (specialize k new test rows)
rows_opened program may wide positions next k position new test [] w news e many fit sees = tt
rows_opened program may wide positions next k position new test (row ∷ rows) w news e many fit sees =
    by (test (demand_at k row)) refl (rows_opened program may wide positions next k position new test rows w news e many fit.1 sees.1)
  where
    by : (b : Bool) → test (demand_at k row) ≡ b → RowsSee program wide (specialize k new test rows)
        → RowsSee program wide (map (specialized k new) (cond b (row ∷ filter (λ r. test (demand_at k r)) rows) (filter (λ r. test (demand_at k r)) rows)))
    by false t rest = rest
    by true t rest =
        let there = there_too row.patterns positions k position fit.0.many e in
        let wanted : test (demand_of there.0) ≡ true = ap test (sym (demand_is k row there.0 there.1)) ∙ t in
        let count = many there.0 wanted (pattern_fits program row.patterns k there.0 fit.0.known there.1) in (
          subst (λ (r : Row). RowSees program wide r) (sym (specialized_is k new there.0 row there.1))
              (row_opened program may wide k new there.0 row w news there.1 count sees.0),
          rest,
        )

pub filter_sees : (program : Program) (may : ℕ → Bool) (test : Row → Bool) (rows : List Row) → RowsSee program may rows
    → RowsSee program may (filter test rows)
filter_sees program may test [] h = tt
filter_sees program may test (row ∷ rows) h = by (test row) (filter_sees program may test rows h.1)
  where
    by : (b : Bool) → RowsSee program may (filter test rows) → RowsSee program may (cond b (row ∷ filter test rows) (filter test rows))
    by true rest = (h.0, rest)
    by false rest = rest

-- where a row demands nothing, all its variables have names
pub leaf_sees : (program : Program) (may : ℕ → Bool) (row : Row) (sees : RowSees program may row) → leftmost row.patterns ≡ None
    → (x : ℕ) → sees.source x ≡ true → may (name_of row.names x) ≡ true
leaf_sees program may row sees e x h = by (sees.sees x h)
  where
    by : (holds x (inner_all row.patterns) ≡ true) ⊎ (may (name_of row.names x) ≡ true) → may (name_of row.names x) ≡ true
    by (inl inside) = absurd (true≢false (sym inside ∙ ap (holds x) (none_inside row.patterns e)))
    by (inr named) = named
