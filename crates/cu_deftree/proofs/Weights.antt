-- How much there is to lower: each row that is specialized at a position that the first row demands weighs less.
use Rattle.std.proofs.Common.{◌≡◌, ℕ, zero, suc, ◌+◌, ◌<◌, ◌≤◌, ◌⊎◌, inl, inr, Bool, true, false, not, ◌&&◌, List, [], ◌∷◌, ◌++◌, cond, if◌then◌else◌, filter, length, map, replicate, take, drop, Option, None, Some, option_map, slice_get, refl, ap, sym, ◌∙◌, arith, add-one, true≢false}
use Rattle.std.specs.List.{list_all}
use Rattle.std.proofs.lemmas.Bool.{and_parts}
use Rattle.cu_calculus.specs.declared.Lit.{Lit}
use Rattle.cu_calculus.specs.Choose.{ALiteral, Demand, Nothing, arguments_of, demand_of, is_demanding, leftmost, list_patterns, not_literal, spliced}
use Rattle.cu_calculus.specs.Term as term
use Rattle.cu_calculus.specs.Term.{Alternatives, Pattern, Patterns, Term, Terms}
use Rattle.cu_calculus.proofs.Choosing.{literal_itself}
use Rattle.cu_deftree.specs.Rows.{Names, Row, demand_at, demanded_by_all, demanded_from, demands, rows_of, specialize, specialized}
use Rattle.cu_deftree.proofs.Opening.{put}
use Rattle.cu_deftree.proofs.Suits.{demand_is, specialized_is}

-- ---- weights

abbrev mutual
  pub pattern_weight : Pattern → ℕ
  pattern_weight (term.Any x) = 0
  pattern_weight (term.Exactly l) = 1
  pattern_weight (term.Built c ps) = suc (patterns_weight ps)
  pattern_weight (term.Named x p) = pattern_weight p

  pub patterns_weight : Patterns → ℕ
  patterns_weight term.NoPattern = 0
  patterns_weight (term.MorePatterns p ps) = pattern_weight p + patterns_weight ps

abbrev mutual
  pub term_weight : Term → ℕ
  term_weight (term.Variable x) = 1
  term_weight (term.Literal l) = 1
  term_weight (term.Whole h ts) = suc (terms_weight ts)
  term_weight (term.Part h ts) = suc (terms_weight ts)
  term_weight (term.Apply f a) = suc (term_weight f + term_weight a)
  term_weight (term.Let x a b) = suc (term_weight a + term_weight b)
  term_weight (term.Free x t) = suc (term_weight t)
  term_weight (term.Or a b) = suc (term_weight a + term_weight b)
  term_weight (term.Case mode a alternatives) = suc (term_weight a + alternatives_weight alternatives)

  pub terms_weight : Terms → ℕ
  terms_weight term.NoTerm = 0
  terms_weight (term.MoreTerms t ts) = suc (term_weight t + terms_weight ts)

  pub alternatives_weight : Alternatives → ℕ
  alternatives_weight term.NoAlternative = 0
  alternatives_weight (term.MoreAlternatives p t alternatives) = suc (pattern_weight p + term_weight t + alternatives_weight alternatives)

abbrev pub list_weight : List Pattern → ℕ
list_weight [] = 0
list_weight (p ∷ ps) = pattern_weight p + list_weight ps

abbrev pub row_weight : Row → ℕ
row_weight row = suc (list_weight row.patterns + term_weight row.body)

abbrev pub rows_weight : List Row → ℕ
rows_weight [] = 0
rows_weight (row ∷ rows) = row_weight row + rows_weight rows

-- ---- one row

pub listed_weight : (ps : Patterns) → list_weight (list_patterns ps) ≡ patterns_weight ps
listed_weight term.NoPattern = refl
listed_weight (term.MorePatterns p ps) = ap (λ n. pattern_weight p + n) (listed_weight ps)

append_weight : (ps qs : List Pattern) → list_weight (ps ++ qs) ≡ list_weight ps + list_weight qs
append_weight [] qs = omega arith
append_weight (p ∷ ps) qs = let rest = append_weight ps qs in omega arith

put_weight : (k : ℕ) (mid ps : List Pattern) (p : Pattern) → slice_get ps k ≡ Some p
    → list_weight (put k mid ps) + pattern_weight p ≡ list_weight mid + list_weight ps
put_weight k mid [] p e = let no : ⊥ = cc in absurd no
put_weight zero mid (q ∷ ps) p e =
    let same : q ≡ p = cc in
    let weight = ap pattern_weight same in
    let parts = append_weight mid ps in
    omega arith
put_weight (suc k) mid (q ∷ ps) p e = let rest = put_weight k mid ps p e in omega arith

any_weight : (n x : ℕ) → list_weight (replicate n (term.Any x)) ≡ 0
any_weight zero x = refl
any_weight (suc n) x = let rest = any_weight n x in omega arith

arguments_weight : (n : ℕ) (p : Pattern) → list_weight (arguments_of n p) ≤ pattern_weight p
arguments_weight n (term.Any x) = let none = any_weight n x in omega arith
arguments_weight n (term.Exactly l) = omega arith
arguments_weight n (term.Built c ps) = let same = listed_weight ps in omega arith
arguments_weight n (term.Named x p) = arguments_weight n p

demanding_weight : (n : ℕ) (p : Pattern) → is_demanding (demand_of p) ≡ true → list_weight (arguments_of n p) < pattern_weight p
demanding_weight n (term.Any x) e = let no : ⊥ = cc in absurd no
demanding_weight n (term.Exactly l) e = omega arith
demanding_weight n (term.Built c ps) e = let same = listed_weight ps in omega arith
demanding_weight n (term.Named x p) e = demanding_weight n p e

spliced_none : (k : ℕ) (ps : List Pattern) → slice_get ps k ≡ None → spliced k [] ps ≡ ps
spliced_none zero [] e = refl
spliced_none (suc k) [] e = ap (λ (n : ℕ). take (suc k) [] ++ [] ++ drop n []) (add-one (suc k))
spliced_none zero (p ∷ ps) e = let no : ⊥ = cc in absurd no
spliced_none (suc k) (p ∷ ps) e =
    ap (λ (n : ℕ). (p ∷ take k ps) ++ [] ++ drop n (p ∷ ps)) (add-one (suc k))
    ∙ ap (λ (qs : List Pattern). p ∷ qs) (ap (λ (n : ℕ). take k ps ++ [] ++ drop n ps) (sym (add-one k)) ∙ spliced_none k ps e)

-- what is found at a place, or that nothing is
abbrev Found : (k : ℕ) (ps : List Pattern) → Type 0
Found k ps = (slice_get ps k ≡ None) ⊎ ((p : Pattern) × (slice_get ps k ≡ Some p))

found : (k : ℕ) (ps : List Pattern) → Found k ps
found k ps = by (slice_get ps k) refl
  where
    by : (o : Option Pattern) → slice_get ps k ≡ o → Found k ps
    by None e = inl e
    by (Some p) e = inr (p, e)

abbrev missing : ℕ → List ℕ → Row → Option Pattern → List Pattern
missing k new row found = spliced k (elim found [ Some p ↦ arguments_of (length new) p | None ↦ [] ]) row.patterns

-- opening a row doesn't make it heavier
pub opened_weight : (k : ℕ) (new : List ℕ) (row : Row) → row_weight (specialized k new row) ≤ row_weight row
opened_weight k new row = by (found k row.patterns)
  where
    by : Found k row.patterns → row_weight (specialized k new row) ≤ row_weight row
    by (inl none) =
        let same : (specialized k new row).patterns ≡ row.patterns = ap (missing k new row) none ∙ spliced_none k row.patterns none in
        let weight = ap list_weight same in
        omega arith
    by (inr there) =
        let same = ap row_weight (specialized_is k new there.0 row there.1) in
        let weight = put_weight k (arguments_of (length new) there.0) row.patterns there.0 there.1 in
        let less = arguments_weight (length new) there.0 in
        omega arith

pub demanding_opened : (k : ℕ) (new : List ℕ) (row : Row) → demands k row ≡ true → row_weight (specialized k new row) < row_weight row
demanding_opened k new row e = by (found k row.patterns)
  where
    by : Found k row.patterns → row_weight (specialized k new row) < row_weight row
    by (inl none) =
        let nothing : demand_at k row ≡ Nothing = ap (λ (o : Option Pattern). elim o [ Some q ↦ demand_of q | None ↦ Nothing ]) none in
        let no = ap is_demanding nothing in
        absurd (true≢false (sym e ∙ no))
    by (inr there) =
        let same = ap row_weight (specialized_is k new there.0 row there.1) in
        let weight = put_weight k (arguments_of (length new) there.0) row.patterns there.0 there.1 in
        let less = demanding_weight (length new) there.0 (sym (ap is_demanding (demand_is k row there.0 there.1)) ∙ e) in
        omega arith

-- ---- rows

pub specialize_weight : (k : ℕ) (new : List ℕ) (test : Demand → Bool) (rows : List Row) → rows_weight (specialize k new test rows) ≤ rows_weight rows
specialize_weight k new test [] = omega arith
specialize_weight k new test (row ∷ rows) = by (test (demand_at k row)) (specialize_weight k new test rows)
  where
    by : (b : Bool) → rows_weight (specialize k new test rows) ≤ rows_weight rows
        → rows_weight (map (specialized k new) (cond b (row ∷ filter (λ r. test (demand_at k r)) rows) (filter (λ r. test (demand_at k r)) rows)))
        ≤ rows_weight (row ∷ rows)
    by true rest = let one = opened_weight k new row in omega arith
    by false rest = omega arith

pub specialize_lighter : (k : ℕ) (new : List ℕ) (test : Demand → Bool) (row : Row) (rows : List Row) → demands k row ≡ true
    → rows_weight (specialize k new test (row ∷ rows)) < rows_weight (row ∷ rows)
specialize_lighter k new test row rows e = by (test (demand_at k row)) (specialize_weight k new test rows)
  where
    by : (b : Bool) → rows_weight (specialize k new test rows) ≤ rows_weight rows
        → rows_weight (map (specialized k new) (cond b (row ∷ filter (λ r. test (demand_at k r)) rows) (filter (λ r. test (demand_at k r)) rows)))
        < rows_weight (row ∷ rows)
    by true rest = let one = demanding_opened k new row e in omega arith
    by false rest = omega arith

pub filter_weight : (test : Row → Bool) (rows : List Row) → rows_weight (filter test rows) ≤ rows_weight rows
filter_weight test [] = omega arith
filter_weight test (row ∷ rows) = by (test row) (filter_weight test rows)
  where
    by : (b : Bool) → rows_weight (filter test rows) ≤ rows_weight rows
        → rows_weight (cond b (row ∷ filter test rows) (filter test rows)) ≤ rows_weight (row ∷ rows)
    by true rest = omega arith
    by false rest = omega arith

-- a row that fails the test makes the rest lighter
pub filter_lighter : (test : Row → Bool) (rows : List Row) → list_all test rows ≡ false → rows_weight (filter test rows) < rows_weight rows
filter_lighter test [] e = let no : ⊥ = cc in absurd no
filter_lighter test (row ∷ rows) e = by (test row) e (filter_weight test rows) (filter_lighter test rows)
  where
    by : (b : Bool) → (b && list_all test rows) ≡ false → rows_weight (filter test rows) ≤ rows_weight rows
        → (list_all test rows ≡ false → rows_weight (filter test rows) < rows_weight rows)
        → rows_weight (cond b (row ∷ filter test rows) (filter test rows)) < rows_weight (row ∷ rows)
    by true f low less = let rest = less f in omega arith
    by false f low less = omega arith

pub without_first : (test : Row → Bool) (row : Row) (rows : List Row) → test row ≡ false
    → rows_weight (filter test (row ∷ rows)) < rows_weight (row ∷ rows)
without_first test row rows e = by (test row) e (filter_weight test rows)
  where
    by : (b : Bool) → b ≡ false → rows_weight (filter test rows) ≤ rows_weight rows
        → rows_weight (cond b (row ∷ filter test rows) (filter test rows)) < rows_weight (row ∷ rows)
    by true f low = let no : ⊥ = cc in absurd no
    by false f low = omega arith

-- ---- what the first row demands

leftmost_if : (b : Bool) (rest : Option ℕ) (k : ℕ) → (if b then Some 0 else option_map (λ n. n + 1) rest) ≡ Some k
    → ((b ≡ true) × (k ≡ 0)) ⊎ ((m : ℕ) × (rest ≡ Some m) × (k ≡ suc m))
leftmost_if true rest k e = let here : k ≡ 0 = cc in inl (refl, here)
leftmost_if false None k e = let no : ⊥ = cc in absurd no
leftmost_if false (Some m) k e = let there : k ≡ m + 1 = cc in inr (m, refl, there ∙ add-one m)

-- what stands at the leftmost position that patterns demand
pub leftmost_there : (ps : List Pattern) (k : ℕ) → leftmost ps ≡ Some k → (p : Pattern) × (slice_get ps k ≡ Some p) × (is_demanding (demand_of p) ≡ true)
leftmost_there [] k e = let no : ⊥ = cc in absurd no
leftmost_there (p ∷ ps) k e = by (leftmost_if (is_demanding (demand_of p)) (leftmost ps) k e) (leftmost_there ps)
  where
    by : ((is_demanding (demand_of p) ≡ true) × (k ≡ 0)) ⊎ ((m : ℕ) × (leftmost ps ≡ Some m) × (k ≡ suc m))
        → ((m : ℕ) → leftmost ps ≡ Some m → (q : Pattern) × (slice_get ps m ≡ Some q) × (is_demanding (demand_of q) ≡ true))
        → (q : Pattern) × (slice_get (p ∷ ps) k ≡ Some q) × (is_demanding (demand_of q) ≡ true)
    by (inl here) later = (p, ap (slice_get (p ∷ ps)) here.1, here.0)
    by (inr rest) later = let there = later rest.0 rest.1 in (there.0, ap (slice_get (p ∷ ps)) rest.2 ∙ there.1, there.2)

pub leftmost_demands : (row : Row) (k : ℕ) → leftmost row.patterns ≡ Some k → demands k row ≡ true
leftmost_demands row k e = let there = leftmost_there row.patterns k e in ap is_demanding (demand_is k row there.0 there.1) ∙ there.2

all_if : (b : Bool) (k m : ℕ) (rest : Option ℕ) → (if b then Some k else rest) ≡ Some m → ((b ≡ true) × (m ≡ k)) ⊎ (rest ≡ Some m)
all_if true k m rest e = let same : m ≡ k = cc in inl (refl, same)
all_if false k m rest e = inr e

from_demanded : (j k : ℕ) (ps : List Pattern) (rows : List Row) → demanded_from j ps rows ≡ Some k → list_all (demands k) rows ≡ true
from_demanded j k [] rows e = let no : ⊥ = cc in absurd no
from_demanded j k (p ∷ ps) rows e = by (all_if (list_all (demands j) rows) j k (demanded_from (suc j) ps rows) e) (from_demanded (suc j) k ps rows)
  where
    by : ((list_all (demands j) rows ≡ true) × (k ≡ j)) ⊎ (demanded_from (suc j) ps rows ≡ Some k)
        → (demanded_from (suc j) ps rows ≡ Some k → list_all (demands k) rows ≡ true) → list_all (demands k) rows ≡ true
    by (inl here) later = ap (λ (n : ℕ). list_all (demands n) rows) here.1 ∙ here.0
    by (inr rest) later = later rest

pub all_demanding : (row : Row) (rows : List Row) (k : ℕ) → demanded_by_all (row ∷ rows) ≡ Some k → demands k row ≡ true
all_demanding row rows k e = (and_parts (demands k row) (list_all (demands k) rows) (from_demanded 0 k row.patterns (row ∷ rows) e)).0

none_if : (b : Bool) (k : ℕ) (rest : Option ℕ) → (if b then Some k else rest) ≡ None → (b ≡ false) × (rest ≡ None)
none_if true k rest e = let no : ⊥ = cc in absurd no
none_if false k rest e = (refl, e)

from_none : (j i : ℕ) (ps : List Pattern) (rows : List Row) (p : Pattern) → demanded_from j ps rows ≡ None → slice_get ps i ≡ Some p
    → list_all (demands (j + i)) rows ≡ false
from_none j i [] rows p e f = let no : ⊥ = cc in absurd no
from_none j zero (q ∷ ps) rows p e f =
    let none : j + 0 ≡ j = omega arith in
    ap (λ (n : ℕ). list_all (demands n) rows) none ∙ (none_if (list_all (demands j) rows) j (demanded_from (suc j) ps rows) e).0
from_none j (suc i) (q ∷ ps) rows p e f =
    let moved : j + suc i ≡ suc j + i = omega arith in
    ap (λ (n : ℕ). list_all (demands n) rows) moved
    ∙ from_none (suc j) i ps rows p (none_if (list_all (demands j) rows) j (demanded_from (suc j) ps rows) e).1 f

-- a position that the first row demands is not demanded by all, where none is
pub not_all_demand : (row : Row) (rows : List Row) (k : ℕ) → demanded_by_all (row ∷ rows) ≡ None → leftmost row.patterns ≡ Some k
    → list_all (demands k) (row ∷ rows) ≡ false
not_all_demand row rows k e f =
    let there = leftmost_there row.patterns k f in
    let here : k ≡ 0 + k = omega arith in
    ap (λ (n : ℕ). list_all (demands n) (row ∷ rows)) here ∙ from_none 0 k row.patterns (row ∷ rows) there.0 e there.1

-- ---- the parts of a split, and of a test by `==`

pub demanding_lighter : (row : Row) (rows : List Row) (k : ℕ) → demanded_by_all (row ∷ rows) ≡ None → leftmost row.patterns ≡ Some k
    → rows_weight (filter (demands k) (row ∷ rows)) < rows_weight (row ∷ rows)
demanding_lighter row rows k e f = filter_lighter (demands k) (row ∷ rows) (not_all_demand row rows k e f)

pub others_lighter : (row : Row) (rows : List Row) (k : ℕ) → leftmost row.patterns ≡ Some k
    → rows_weight (filter (λ other. not (demands k other)) (row ∷ rows)) < rows_weight (row ∷ rows)
others_lighter row rows k e = without_first (λ other. not (demands k other)) row rows (ap not (leftmost_demands row k e))

pub not_literal_lighter : (row : Row) (rows : List Row) (k : ℕ) (l : Lit) → demand_at k row ≡ ALiteral l
    → rows_weight (filter (λ one. not_literal l (demand_at k one)) (row ∷ rows)) < rows_weight (row ∷ rows)
not_literal_lighter row rows k l e =
    without_first (λ one. not_literal l (demand_at k one)) row rows (ap (not_literal l) e ∙ ap not (literal_itself l))

-- ---- alternatives

pub alternatives_lighter : (names : Names) (position : ℕ) (alternatives : Alternatives)
    → rows_weight (rows_of names position alternatives) ≤ alternatives_weight alternatives
alternatives_lighter names position term.NoAlternative = omega arith
alternatives_lighter names position (term.MoreAlternatives p t alternatives) =
    let rest = alternatives_lighter names position alternatives in omega arith
