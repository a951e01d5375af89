-- Steps of loops over rows.
use Rattle.std.proofs.Common.{◌≡◌, ℕ, zero, suc, ◌+◌, ◌-◌, ◌<◌, ◌≤◌, Bool, true, false, List, [], ◌∷◌, ◌++◌, Option, None, Some, if◌then◌else◌, drop, take, map, length, length-drop, get_or, option_map, slice_get, append_assoc, append-nil, refl, ap, ap₂, sym, ◌∙◌, arith, add-one}
use Rattle.std.specs.Bool.{◌==◌}
use Rattle.std.specs.Vec.{vec_len}
use Rattle.std.specs.List.{list_all}
use Rattle.std.proofs.lemmas.List.{length-map}
use Rattle.std.proofs.lemmas.Option.{slice_get-map, slice_get_past, slice_get_read}
use denote.Ref.{Bor}
use Rattle.cu_calculus.specs.Choose.{arguments_of, list_patterns, spliced}
use Rattle.cu_calculus.specs.Term as clean
use Rattle.cu_deftree.specs.Inside.NamesOf.{names_of}
use Rattle.cu_deftree.specs.Inside.RowsOf.{all_rows, row_of}
use Rattle.cu_deftree.specs.Rows.{Names, Row, argument_names, demanded_from, demands, names_at_all, row_of_rule, specialized}
use Rattle.cu_deftree.specs.declared.rows.Row as code
use Rattle.cu_deftree.proofs.NameLaws.{listed}
use Rattle.cu_kernel.specs.KernelOf.{rule_meaning}
use Rattle.cu_kernel.specs.TermsOf.{pattern_of, patterns_of, term_of}
use Rattle.cu_kernel.specs.declared.term.Pattern.{Pattern}
use Rattle.cu_kernel.specs.declared.term.Rule.{Rule}
use Rattle.cu_matrix.specs.Meaning.{arguments_at, patterns_at}

-- ---- the position that all demand

-- the leftmost position that all rows demand, from this one on
abbrev pub demanded_past : ℕ → List Row → Option ℕ
demanded_past k [] = None
demanded_past k (row ∷ rows) = demanded_from k (drop k row.patterns) (row ∷ rows)

open_at : {A : Type 0} (k : ℕ) (xs : List A) → k < length xs → (x : A) × (drop k xs ≡ x ∷ drop (suc k) xs)
open_at k [] below = absurd (omega arith)
open_at zero (x ∷ xs) below = (x, refl)
open_at (suc k) (x ∷ xs) below = open_at k xs (omega arith)

from_next : (k : ℕ) (qs ps : List clean.Pattern) (p : clean.Pattern) (rows : List Row) (whole : Option ℕ) → qs ≡ p ∷ ps
    → list_all (demands k) rows ≡ false → demanded_from k qs rows ≡ whole → demanded_from (suc k) ps rows ≡ whole
from_next k qs ps p rows whole e some_not before =
    sym (ap (λ (b : Bool). if b then Some k else demanded_from (suc k) ps rows) some_not)
    ∙ sym (ap (λ (rs : List clean.Pattern). demanded_from k rs rows) e) ∙ before

from_here : (k : ℕ) (qs ps : List clean.Pattern) (p : clean.Pattern) (rows : List Row) (whole : Option ℕ) → qs ≡ p ∷ ps
    → list_all (demands k) rows ≡ true → demanded_from k qs rows ≡ whole → Some k ≡ whole
from_here k qs ps p rows whole e all before =
    sym (ap (λ (b : Bool). if b then Some k else demanded_from (suc k) ps rows) all)
    ∙ sym (ap (λ (rs : List clean.Pattern). demanded_from k rs rows) e) ∙ before

from_end : (k : ℕ) (ps : List clean.Pattern) (rows : List Row) → length ps ≤ k → demanded_from k (drop k ps) rows ≡ None
from_end k ps rows past = by (drop k ps) (omega (arith, length-drop k ps))
  where
    by : (qs : List clean.Pattern) → length qs ≤ 0 → demanded_from k qs rows ≡ None
    by [] h = refl
    by (q ∷ qs) h = absurd (omega arith)

many_at : (ps : List (Bor Pattern)) → length (patterns_at ps) ≡ length ps
many_at ps = length-map ps (λ (p : Bor Pattern). pattern_of p.now)

pub some_rows : (n : ℕ) → false ≡ (n == 0) → 0 < n
some_rows zero e = let none : ⊥ = cc in absurd none
some_rows (suc n) e = omega arith

pub no_demand : (rows : List code.Row) (first : code.Row) (k n : ℕ) (whole : Option ℕ) → 0 < length rows
    → n ≡ vec_len (get_or rows 0 first).patterns → k < n → list_all (demands k) (all_rows rows) ≡ false → demanded_past k (all_rows rows) ≡ whole
    → demanded_past (k + 1) (all_rows rows) ≡ whole
no_demand [] first k n whole some many below some_not before = absurd (omega arith)
no_demand (row ∷ rows) first k n whole some many below some_not before =
    let v = row.patterns in
    let same : n ≡ length row.patterns.items = omega (arith, many, v.ok) in
    let next = open_at k (patterns_at row.patterns.items) (omega (arith, many_at row.patterns.items)) in
    ap (λ (j : ℕ). demanded_from j (drop j (patterns_at row.patterns.items)) (all_rows (row ∷ rows))) (add-one k)
    ∙ from_next k (drop k (patterns_at row.patterns.items)) (drop (suc k) (patterns_at row.patterns.items)) next.0 (all_rows (row ∷ rows)) whole next.1 some_not before

pub all_do : (rows : List code.Row) (first : code.Row) (k n : ℕ) (whole : Option ℕ) → 0 < length rows
    → n ≡ vec_len (get_or rows 0 first).patterns → k < n → list_all (demands k) (all_rows rows) ≡ true → demanded_past k (all_rows rows) ≡ whole
    → Some k ≡ whole
all_do [] first k n whole some many below all before = absurd (omega arith)
all_do (row ∷ rows) first k n whole some many below all before =
    let v = row.patterns in
    let same : n ≡ length row.patterns.items = omega (arith, many, v.ok) in
    let next = open_at k (patterns_at row.patterns.items) (omega (arith, many_at row.patterns.items)) in
    from_here k (drop k (patterns_at row.patterns.items)) (drop (suc k) (patterns_at row.patterns.items)) next.0 (all_rows (row ∷ rows)) whole next.1 all before

pub none_do : (rows : List code.Row) (first : code.Row) (k n : ℕ) (whole : Option ℕ)
    → n ≡ vec_len (get_or rows 0 first).patterns → n ≤ k → demanded_past k (all_rows rows) ≡ whole → None ≡ whole
none_do [] first k n whole many past before = before
none_do (row ∷ rows) first k n whole many past before =
    let v = row.patterns in
    let same : n ≡ length row.patterns.items = omega (arith, many, v.ok) in
    sym (from_end k (patterns_at row.patterns.items) (all_rows (row ∷ rows)) (omega (arith, many_at row.patterns.items))) ∙ before

-- ---- patterns over arguments

take_all : {A : Type 0} (n : ℕ) (xs : List A) → length xs ≤ n → take n xs ≡ xs
take_all zero [] h = refl
take_all zero (x ∷ xs) h = absurd (omega arith)
take_all (suc n) [] h = refl
take_all (suc n) (x ∷ xs) h = ap (λ rest. x ∷ rest) (take_all n xs (omega arith))

drop_all : {A : Type 0} (n : ℕ) (xs : List A) → length xs ≤ n → drop n xs ≡ []
drop_all zero [] h = refl
drop_all zero (x ∷ xs) h = absurd (omega arith)
drop_all (suc n) [] h = refl
drop_all (suc n) (x ∷ xs) h = drop_all n xs (omega arith)

found_at : (items : List (Bor Pattern)) (k : ℕ) (p : Bor Pattern) → k < length items → p ≡ get_or items k p
    → slice_get (patterns_at items) k ≡ Some (pattern_of p.now)
found_at items k p below is =
    let at = λ (q : Bor Pattern). pattern_of q.now in
    slice_get-map at items k ∙ ap (option_map at) (slice_get_read items (length items) k p refl below is)

abbrev over : ℕ → Option clean.Pattern → List clean.Pattern
over n found = elim found [ Some p ↦ arguments_of n p | None ↦ [] ]

abbrev shaped : ℕ → List ℕ → Row → Option clean.Pattern → Row
shaped k new row found = record {
  patterns = spliced k (over (length new) found) row.patterns;
  names = elim found [ Some p ↦ argument_names new p ++ row.names | None ↦ row.names ];
  body = row.body;
}

abbrev with_parts : Row → List clean.Pattern → Names → Row
with_parts row ps ns = record { patterns = ps; names = ns; body = row.body }

pub specialized_past : (row : code.Row) (k : ℕ) (new : List ℕ) → length row.patterns.items ≤ k → row_of row ≡ specialized k new (row_of row)
specialized_past row k new past =
    let ps = patterns_at row.patterns.items in
    let short : length ps ≤ k = omega (arith, many_at row.patterns.items) in
    let same : spliced k [] ps ≡ ps =
    ap₂ (λ (xs ys : List clean.Pattern). xs ++ ys) (ap (λ (xs : List clean.Pattern). xs ++ []) (take_all k ps short) ∙ append-nil ps) (drop_all (k + 1) ps (omega arith)) ∙ append-nil ps in
    sym (ap (shaped k new (row_of row)) (slice_get_past ps k short) ∙ ap (λ (qs : List clean.Pattern). with_parts (row_of row) qs (row_of row).names) same)

pub specialized_here : (row : code.Row) (k n : ℕ) (new : List ℕ) (p : Bor Pattern) (items patterns : List (Bor Pattern)) (names own : Names)
    → items ≡ row.patterns.items → names ≡ row.own.items → k < length row.patterns.items → p ≡ get_or row.patterns.items k p → n ≡ length new
    → patterns_at patterns ≡ spliced k (arguments_at n k (patterns_at items)) (patterns_at items)
    → own ≡ argument_names new (pattern_of p.now) ++ names
    → with_parts (row_of row) (patterns_at patterns) (own ++ names_of row.around.now) ≡ specialized k new (row_of row)
specialized_here row k n new p items patterns names own same as_before below is many opened named =
    let ps = patterns_at row.patterns.items in
    let found : slice_get ps k ≡ Some (pattern_of p.now) = found_at row.patterns.items k p below is in
    let first : patterns_at patterns ≡ spliced k (over (length new) (slice_get ps k)) ps =
    opened ∙ ap (λ (xs : List (Bor Pattern)). spliced k (arguments_at n k (patterns_at xs)) (patterns_at xs)) same ∙ ap (λ (m : ℕ). spliced k (over m (slice_get ps k)) ps) many in
    let second : own ++ names_of row.around.now ≡ argument_names new (pattern_of p.now) ++ (row.own.items ++ names_of row.around.now) =
    ap (λ (ns : Names). ns ++ names_of row.around.now) (named ∙ ap (λ (ns : Names). argument_names new (pattern_of p.now) ++ ns) as_before) ∙ append_assoc (argument_names new (pattern_of p.now)) row.own.items (names_of row.around.now) in
    ap₂ (with_parts (row_of row)) (first ∙ ap (λ (o : Option clean.Pattern). spliced k (over (length new) o) ps) found) second
    ∙ sym (ap (shaped k new (row_of row)) found)

-- ---- rules

abbrev rule_parts : clean.Term → List clean.Pattern → Names → Row
rule_parts t ps ns = record { patterns = ps; names = ns; body = t }

pub rule_row_is : (rule : Rule) (params : List Pattern) (positions : List ℕ) (begun patterns : List (Bor Pattern)) (none own around : Names)
    → params ≡ rule.params.items → begun ≡ [] → none ≡ [] → around ≡ []
    → patterns_at patterns ≡ patterns_at begun ++ map pattern_of params
    → own ≡ none ++ names_at_all positions (list_patterns (patterns_of params))
    → rule_parts (term_of rule.body) (patterns_at patterns) (own ++ around) ≡ row_of_rule positions (rule_meaning rule)
rule_row_is rule params positions begun patterns none own around same e f g first second =
    ap₂ (rule_parts (term_of rule.body))
    (first ∙ ap (λ (xs : List (Bor Pattern)). patterns_at xs ++ map pattern_of params) e ∙ listed params
    ∙ ap (λ (xs : List Pattern). list_patterns (patterns_of xs)) same)
    (ap₂ (λ (xs ys : Names). xs ++ ys) (second ∙ ap (λ (xs : Names). xs ++ names_at_all positions (list_patterns (patterns_of params))) f) g
    ∙ append-nil (names_at_all positions (list_patterns (patterns_of params)))
    ∙ ap (λ (xs : List Pattern). names_at_all positions (list_patterns (patterns_of xs))) same)
