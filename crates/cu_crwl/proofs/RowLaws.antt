-- Patterns over the arguments of what stands at a position.
use Rattle.std.proofs.Common.{◌≡◌, ℕ, zero, suc, ◌+◌, ◌≤◌, List, [], ◌∷◌, ◌++◌, Option, None, Some, take, drop, length, slice_get, append-nil, arith, refl, ap, ap₂, sym, ◌∙◌}
use Rattle.std.proofs.lemmas.List.{length-map}
use Rattle.std.proofs.lemmas.Option.{slice_get_past}
use denote.Ref.{Bor}
use Rattle.cu_calculus.specs.Choose as calculus
use Rattle.cu_calculus.specs.Choose.{arguments_of, specialized_row, spliced}
use Rattle.cu_calculus.specs.Chosen.{chosen, chosen_after}
use Rattle.cu_calculus.specs.Program.{Program}
use Rattle.cu_calculus.specs.Value.{Value}
use Rattle.cu_calculus.proofs.Choosing.{chosen_looks}
use Rattle.cu_matrix.specs.Meaning.{arguments_at, patterns_at}
use Rattle.cu_crwl.specs.Inside.Rows.{look_meaning, row_meaning, rows_meaning}
use Rattle.cu_crwl.specs.declared.choose.Look.{Look}
use Rattle.cu_crwl.specs.declared.choose.Row.{Row}
use Rattle.cu_calculus.specs.Term as clean
use Rattle.cu_kernel.specs.TermsOf.{pattern_of}
use Rattle.cu_kernel.specs.declared.term.Pattern.{Pattern}

take_all : {A : Type 0} (n : ℕ) (xs : List A) → length xs ≤ n → take n xs ≡ xs
take_all zero [] h = refl
take_all zero (x ∷ xs) h = absurd (omega arith)
take_all (suc n) [] h = refl
take_all (suc n) (x ∷ xs) h = ap (λ rest. x ∷ rest) (take_all n xs (omega arith))

drop_all : {A : Type 0} (n : ℕ) (xs : List A) → length xs ≤ n → drop n xs ≡ []
drop_all zero [] h = refl
drop_all zero (x ∷ xs) h = absurd (omega arith)
drop_all (suc n) [] h = refl
drop_all (suc n) (x ∷ xs) h = drop_all n xs (omega arith)

abbrev over : ℕ → Option clean.Pattern → List clean.Pattern
over n found = elim found [ Some p ↦ arguments_of n p | None ↦ [] ]

abbrev with_patterns : Row → List clean.Pattern → calculus.Row
with_patterns row ps = record { patterns = ps; choice = row.choice }

pub specialized_past : (row : Row) (i n : ℕ) → length row.patterns.items ≤ i → row_meaning row ≡ specialized_row i n (row_meaning row)
specialized_past row i n past =
    let ps = patterns_at row.patterns.items in
    let short : length ps ≤ i = omega (arith, length-map row.patterns.items (λ (p : Bor Pattern). pattern_of p.now)) in
    let whole : ps ≡ (take i ps ++ over n (slice_get ps i)) ++ drop (i + 1) ps =
    sym (ap₂ (λ (xs ys : List clean.Pattern). xs ++ ys)
    (ap₂ (λ (xs ys : List clean.Pattern). xs ++ ys) (take_all i ps short) (ap (over n) (slice_get_past ps i short)) ∙ append-nil ps)
    (drop_all (i + 1) ps (omega arith)) ∙ append-nil ps) in
    ap (with_patterns row) whole

pub specialized_here : (row : Row) (i n : ℕ) (items opened : List (Bor Pattern)) → items ≡ row.patterns.items
    → patterns_at opened ≡ spliced i (arguments_at n i (patterns_at items)) (patterns_at items)
    → with_patterns row (patterns_at opened) ≡ specialized_row i n (row_meaning row)
specialized_here row i n items opened same is =
    ap (with_patterns row) (is ∙ ap (λ (xs : List (Bor Pattern)). spliced i (arguments_at n i (patterns_at xs)) (patterns_at xs)) same)

-- what a look found
pub look_is : (program : Program) (found v : Look) (rs : List Row) (vs : List Value) (rows : List Row) (values : List Value) → found ≡ v
    → look_meaning found ≡ calculus.look program (rows_meaning rs) vs → rs ≡ rows → vs ≡ values
    → calculus.look program (rows_meaning rows) values ≡ look_meaning v
look_is program found v rs vs rows values is looked same other =
    sym (ap₂ (λ (xs : List Row) (ys : List Value). calculus.look program (rows_meaning xs) ys) same other) ∙ sym looked ∙ ap look_meaning is

pub again_chosen : (program : Program) (rows fewer : List calculus.Row) (values : List Value) (whole : Option ℕ)
    → calculus.look program rows values ≡ calculus.Again fewer → chosen program rows values ≡ whole → chosen program fewer values ≡ whole
again_chosen program rows fewer values whole e before =
    sym (chosen_looks program rows values ∙ ap (chosen_after (chosen program) values) e) ∙ before

pub specialize_chosen : (program : Program) (rows fewer : List calculus.Row) (values parts : List Value) (whole : Option ℕ)
    → calculus.look program rows values ≡ calculus.Specialize fewer parts → chosen program rows values ≡ whole → chosen program fewer parts ≡ whole
specialize_chosen program rows fewer values parts whole e before =
    sym (chosen_looks program rows values ∙ ap (chosen_after (chosen program) values) e) ∙ before
