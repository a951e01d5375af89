-- What is said of the reader of terms.
use Rattle.std.proofs.Common.{◌≡◌, ℕ, zero, suc, ◌+◌, ◌<◌, false, List, [], ◌∷◌, ◌++◌, Option, None, Some, length, refl, ap, ap₂, sym, ◌∙◌, subst, append_assoc, arith, codes, cond, decimal, nat_eq, eq-eqb}
use Rattle.std.specs.List.{AllByRecursion, flat_map}
use Rattle.cu_calculus.specs.Term as term
use Rattle.cu_calculus.specs.Term.{Alternatives, Pattern, Term, Terms}
use Rattle.cu_calculus.specs.Valid.{term_count}
use Rattle.cu_calculus.specs.declared.Head.{Head}
use Rattle.cu_calculus.specs.declared.Lit.{Lit}
use Rattle.cu_calculus.specs.declared.Lit.TheVariants as lit
use Rattle.cu_calculus.specs.declared.Mode.{Mode}
use Rattle.cu_calculus.specs.declared.Mode.TheVariants as mode
use Rattle.cu_prooftext.specs.Format.{AlternativesAreNested, AlternativesInRange, FitsIn32, FitsIn64, HeadInRange, TermInRange, TermIsNested, TermsAreNested, TermsInRange}
use Rattle.cu_prooftext.specs.Inside.Readers.{Reader, choose, made, many, pair}
use Rattle.cu_prooftext.specs.Inside.Reading.{alternative_at, alternative_list, apply_term, call_at, case_at, case_term, character_at, count_at, free_term, head_at, integer_at, let_term, or_term, part_at, part_term, pattern_at, plain_terms, small_at, term_at, term_list, term_table, two_at, whole_term}
use Rattle.cu_prooftext.specs.Text.{alternative_count, alternatives_after, count_text, head_text, pattern_text, term_text, terms_after}
use Rattle.cu_prooftext.proofs.LoopLaws.{ManyGood, many_reads}
use Rattle.cu_prooftext.proofs.NumberLaws.{no_digit}
use Rattle.cu_prooftext.proofs.PatternLaws.{CountFits, PatternGood, after_space, count_reads, fits_64, int_is, parts_apart, parts_reads, pattern_reads}
use Rattle.cu_prooftext.proofs.ReaderLaws.{Ends, Entry, IsTagged, PairGood, Reads, after_reads, choose_reads, entry_if, made_reads, pair_reads, pair_text, tagged_text}
use Rattle.cu_prooftext.proofs.ValueLaws.{IsChar, IsInt, character_reads, head_reads, integer_reads, literal_tail, same_reads, small_reads}

-- ---- lists of terms, and alternatives

abbrev pub TermGood : ℕ → Term → Type 0
TermGood levels t = TermInRange t × TermIsNested levels t

abbrev listed : Terms → List Term
listed term.NoTerm = []
listed (term.MoreTerms t ts) = t ∷ listed ts

listed_again : (ts : Terms) → term_list (listed ts) ≡ ts
listed_again term.NoTerm = refl
listed_again (term.MoreTerms t ts) = ap (term.MoreTerms t) (listed_again ts)

listed_length : (ts : Terms) → length (listed ts) ≡ term_count ts
listed_length term.NoTerm = refl
listed_length (term.MoreTerms t ts) = omega (arith, listed_length ts)

list_count : (ts : List Term) → term_count (term_list ts) ≡ length ts
list_count [] = refl
list_count (t ∷ ts) = omega (arith, list_count ts)

list_texts : (ts : List Term) → terms_after (term_list ts) ≡ flat_map (after_space term_text) ts
list_texts [] = refl
list_texts (t ∷ ts) = ap (λ (z : List ℕ). 32 ∷ (term_text t ++ z)) (list_texts ts)

listed_good : (levels : ℕ) (ts : Terms) → TermsInRange ts → TermsAreNested levels ts → AllByRecursion (TermGood levels) (listed ts)
listed_good levels term.NoTerm g n = tt
listed_good levels (term.MoreTerms t ts) g n = ((g.0, n.0), listed_good levels ts g.1 n.1)

list_in_range : (levels : ℕ) (ts : List Term) → AllByRecursion (TermGood levels) ts → TermsInRange (term_list ts) × TermsAreNested levels (term_list ts)
list_in_range levels [] g = (tt, tt)
list_in_range levels (t ∷ ts) g = let more = list_in_range levels ts g.1 in ((g.0.0, more.0), (g.0.1, more.1))

none_nested : (ts : Terms) → TermsAreNested 0 ts → term_count ts ≡ 0
none_nested term.NoTerm n = refl
none_nested (term.MoreTerms t ts) n = absurd n.0

count_fits : (levels : ℕ) (ts : Terms) → FitsIn64 (term_count ts) → TermsAreNested levels ts → CountFits levels (term_count ts)
count_fits zero ts f n = omega (arith, none_nested ts n)
count_fits (suc levels) ts f n = omega arith

abbrev RowGood : ℕ → Pattern × Term → Type 0
RowGood levels = PairGood (PatternGood levels) (λ p. TermGood levels)

abbrev row_text : Pattern × Term → List ℕ
row_text = pair_text (after_space pattern_text) (λ p. after_space term_text)

abbrev rows_of : Alternatives → List (Pattern × Term)
rows_of term.NoAlternative = []
rows_of (term.MoreAlternatives p t rows) = (p, t) ∷ rows_of rows

rows_again : (rows : Alternatives) → alternative_list (rows_of rows) ≡ rows
rows_again term.NoAlternative = refl
rows_again (term.MoreAlternatives p t rows) = ap (term.MoreAlternatives p t) (rows_again rows)

rows_length : (rows : Alternatives) → length (rows_of rows) ≡ alternative_count rows
rows_length term.NoAlternative = refl
rows_length (term.MoreAlternatives p t rows) = omega (arith, rows_length rows)

row_count : (rows : List (Pattern × Term)) → alternative_count (alternative_list rows) ≡ length rows
row_count [] = refl
row_count (a ∷ rows) = omega (arith, row_count rows)

row_texts : (rows : List (Pattern × Term)) → alternatives_after (alternative_list rows) ≡ flat_map row_text rows
row_texts [] = refl
row_texts (a ∷ rows) =
    ap (λ (z : List ℕ). 32 ∷ (pattern_text a.0 ++ 32 ∷ (term_text a.1 ++ z))) (row_texts rows)
    ∙ sym (append_assoc (32 ∷ pattern_text a.0) (32 ∷ term_text a.1) (flat_map row_text rows))

rows_good : (levels : ℕ) (rows : Alternatives) → AlternativesInRange rows → AlternativesAreNested levels rows → AllByRecursion (RowGood levels) (rows_of rows)
rows_good levels term.NoAlternative g n = tt
rows_good levels (term.MoreAlternatives p t rows) g n = (((g.0, n.0), (g.1, n.1)), rows_good levels rows g.2 n.2)

rows_in_range : (levels : ℕ) (rows : List (Pattern × Term)) → AllByRecursion (RowGood levels) rows
    → AlternativesInRange (alternative_list rows) × AlternativesAreNested levels (alternative_list rows)
rows_in_range levels [] g = (tt, tt)
rows_in_range levels (a ∷ rows) g =
    let more = rows_in_range levels rows g.1 in ((g.0.0.0, g.0.1.0, more.0), (g.0.0.1, g.0.1.1, more.1))

-- ---- tags

abbrev mode_tag : Mode → ℕ
mode_tag mode.Rigid = 114
mode_tag mode.Flex = 102

abbrev term_tag : Term → ℕ
term_tag (term.Variable x) = 120
term_tag (term.Literal (lit.Int n)) = 105
term_tag (term.Literal (lit.Char c)) = 104
term_tag (term.Whole h ts) = 119
term_tag (term.Part h ts) = 113
term_tag (term.Apply f a) = 64
term_tag (term.Let x a b) = 108
term_tag (term.Free x t) = 110
term_tag (term.Or a b) = 111
term_tag (term.Case m a rows) = mode_tag m

abbrev term_tail : Term → List ℕ
term_tail (term.Variable x) = decimal x
term_tail (term.Literal l) = literal_tail l
term_tail (term.Whole h ts) = head_text h ++ (count_text (term_count ts) ++ terms_after ts)
term_tail (term.Part h ts) = head_text h ++ (count_text (term_count ts) ++ terms_after ts)
term_tail (term.Apply f a) = codes " " ++ (term_text f ++ (codes " " ++ term_text a))
term_tail (term.Let x a b) = decimal x ++ (codes " " ++ (term_text a ++ (codes " " ++ term_text b)))
term_tail (term.Free x t) = decimal x ++ (codes " " ++ term_text t)
term_tail (term.Or a b) = codes " " ++ (term_text a ++ (codes " " ++ term_text b))
term_tail (term.Case m a rows) = count_text (alternative_count rows) ++ (codes " " ++ (term_text a ++ alternatives_after rows))

term_is : (t : Term) → term_text t ≡ tagged_text term_tag term_tail t
term_is (term.Variable x) = refl
term_is (term.Literal (lit.Int n)) = int_is n
term_is (term.Literal (lit.Char c)) = refl
term_is (term.Whole h ts) = refl
term_is (term.Part h ts) = refl
term_is (term.Apply f a) = refl
term_is (term.Let x a b) = refl
term_is (term.Free x t) = refl
term_is (term.Or a b) = refl
term_is (term.Case mode.Rigid a rows) = refl
term_is (term.Case mode.Flex a rows) = refl

abbrev Tagged : ℕ → ℕ → Term → Type 0
Tagged levels = IsTagged term_tag (TermGood (suc levels))

abbrev CallGood : ℕ → Head × (ℕ × List Term) → Type 0
CallGood levels = PairGood HeadInRange (λ h. PairGood (CountFits levels) (ManyGood (TermGood levels)))

abbrev counted_text : ℕ × List Term → List ℕ
counted_text = pair_text count_text (λ n. flat_map (after_space term_text))

abbrev call_text : Head × (ℕ × List Term) → List ℕ
call_text = pair_text head_text (λ h. counted_text)

abbrev TwoGood : ℕ → Term × Term → Type 0
TwoGood levels = PairGood (TermGood levels) (λ t. TermGood levels)

abbrev two_text : Term × Term → List ℕ
two_text = pair_text (after_space term_text) (λ t. after_space term_text)

abbrev CaseGood : ℕ → ℕ × (Term × List (Pattern × Term)) → Type 0
CaseGood levels = PairGood (CountFits levels) (λ n. PairGood (TermGood levels) (λ t. ManyGood (RowGood levels) n))

abbrev case_text : ℕ × (Term × List (Pattern × Term)) → List ℕ
case_text = pair_text count_text (λ n. pair_text (after_space term_text) (λ t. flat_map row_text))

variable_onto : (levels : ℕ) (t : Term) → Tagged levels 120 t → (x : ℕ) × FitsIn32 x × (term.Variable x ≡ t)
variable_onto levels (term.Variable x) g = (x, g.0.0, refl)
variable_onto levels (term.Literal (lit.Int n)) g = let never : ⊥ = omega (arith, g.1) in absurd never
variable_onto levels (term.Literal (lit.Char c)) g = let never : ⊥ = omega (arith, g.1) in absurd never
variable_onto levels (term.Whole h ts) g = let never : ⊥ = omega (arith, g.1) in absurd never
variable_onto levels (term.Part h ts) g = let never : ⊥ = omega (arith, g.1) in absurd never
variable_onto levels (term.Apply f a) g = let never : ⊥ = omega (arith, g.1) in absurd never
variable_onto levels (term.Let x a b) g = let never : ⊥ = omega (arith, g.1) in absurd never
variable_onto levels (term.Free x t) g = let never : ⊥ = omega (arith, g.1) in absurd never
variable_onto levels (term.Or a b) g = let never : ⊥ = omega (arith, g.1) in absurd never
variable_onto levels (term.Case mode.Rigid a rows) g = let never : ⊥ = omega (arith, g.1) in absurd never
variable_onto levels (term.Case mode.Flex a rows) g = let never : ⊥ = omega (arith, g.1) in absurd never

int_onto : (levels : ℕ) (t : Term) → Tagged levels 105 t → (l : Lit) × IsInt l × (term.Literal l ≡ t)
int_onto levels (term.Literal (lit.Int n)) g = (lit.Int n, g.0.0, refl)
int_onto levels (term.Variable x) g = let never : ⊥ = omega (arith, g.1) in absurd never
int_onto levels (term.Literal (lit.Char c)) g = let never : ⊥ = omega (arith, g.1) in absurd never
int_onto levels (term.Whole h ts) g = let never : ⊥ = omega (arith, g.1) in absurd never
int_onto levels (term.Part h ts) g = let never : ⊥ = omega (arith, g.1) in absurd never
int_onto levels (term.Apply f a) g = let never : ⊥ = omega (arith, g.1) in absurd never
int_onto levels (term.Let x a b) g = let never : ⊥ = omega (arith, g.1) in absurd never
int_onto levels (term.Free x t) g = let never : ⊥ = omega (arith, g.1) in absurd never
int_onto levels (term.Or a b) g = let never : ⊥ = omega (arith, g.1) in absurd never
int_onto levels (term.Case mode.Rigid a rows) g = let never : ⊥ = omega (arith, g.1) in absurd never
int_onto levels (term.Case mode.Flex a rows) g = let never : ⊥ = omega (arith, g.1) in absurd never

char_onto : (levels : ℕ) (t : Term) → Tagged levels 104 t → (l : Lit) × IsChar l × (term.Literal l ≡ t)
char_onto levels (term.Literal (lit.Char c)) g = (lit.Char c, g.0.0, refl)
char_onto levels (term.Variable x) g = let never : ⊥ = omega (arith, g.1) in absurd never
char_onto levels (term.Literal (lit.Int n)) g = let never : ⊥ = omega (arith, g.1) in absurd never
char_onto levels (term.Whole h ts) g = let never : ⊥ = omega (arith, g.1) in absurd never
char_onto levels (term.Part h ts) g = let never : ⊥ = omega (arith, g.1) in absurd never
char_onto levels (term.Apply f a) g = let never : ⊥ = omega (arith, g.1) in absurd never
char_onto levels (term.Let x a b) g = let never : ⊥ = omega (arith, g.1) in absurd never
char_onto levels (term.Free x t) g = let never : ⊥ = omega (arith, g.1) in absurd never
char_onto levels (term.Or a b) g = let never : ⊥ = omega (arith, g.1) in absurd never
char_onto levels (term.Case mode.Rigid a rows) g = let never : ⊥ = omega (arith, g.1) in absurd never
char_onto levels (term.Case mode.Flex a rows) g = let never : ⊥ = omega (arith, g.1) in absurd never

whole_onto : (levels : ℕ) (t : Term) → Tagged levels 119 t → (q : Head × (ℕ × List Term)) × CallGood levels q × (whole_term q ≡ t)
whole_onto levels (term.Whole h ts) g = ((h, (term_count ts, listed ts)), (g.0.0.0, (count_fits levels ts g.0.0.1 g.0.1, (listed_length ts, listed_good levels ts g.0.0.2 g.0.1))), ap (term.Whole h) (listed_again ts))
whole_onto levels (term.Variable x) g = let never : ⊥ = omega (arith, g.1) in absurd never
whole_onto levels (term.Literal (lit.Int n)) g = let never : ⊥ = omega (arith, g.1) in absurd never
whole_onto levels (term.Literal (lit.Char c)) g = let never : ⊥ = omega (arith, g.1) in absurd never
whole_onto levels (term.Part h ts) g = let never : ⊥ = omega (arith, g.1) in absurd never
whole_onto levels (term.Apply f a) g = let never : ⊥ = omega (arith, g.1) in absurd never
whole_onto levels (term.Let x a b) g = let never : ⊥ = omega (arith, g.1) in absurd never
whole_onto levels (term.Free x t) g = let never : ⊥ = omega (arith, g.1) in absurd never
whole_onto levels (term.Or a b) g = let never : ⊥ = omega (arith, g.1) in absurd never
whole_onto levels (term.Case mode.Rigid a rows) g = let never : ⊥ = omega (arith, g.1) in absurd never
whole_onto levels (term.Case mode.Flex a rows) g = let never : ⊥ = omega (arith, g.1) in absurd never

part_onto : (levels : ℕ) (t : Term) → Tagged levels 113 t → (q : Head × (ℕ × List Term)) × CallGood levels q × (part_term q ≡ t)
part_onto levels (term.Part h ts) g = ((h, (term_count ts, listed ts)), (g.0.0.0, (count_fits levels ts g.0.0.1 g.0.1, (listed_length ts, listed_good levels ts g.0.0.2 g.0.1))), ap (term.Part h) (listed_again ts))
part_onto levels (term.Variable x) g = let never : ⊥ = omega (arith, g.1) in absurd never
part_onto levels (term.Literal (lit.Int n)) g = let never : ⊥ = omega (arith, g.1) in absurd never
part_onto levels (term.Literal (lit.Char c)) g = let never : ⊥ = omega (arith, g.1) in absurd never
part_onto levels (term.Whole h ts) g = let never : ⊥ = omega (arith, g.1) in absurd never
part_onto levels (term.Apply f a) g = let never : ⊥ = omega (arith, g.1) in absurd never
part_onto levels (term.Let x a b) g = let never : ⊥ = omega (arith, g.1) in absurd never
part_onto levels (term.Free x t) g = let never : ⊥ = omega (arith, g.1) in absurd never
part_onto levels (term.Or a b) g = let never : ⊥ = omega (arith, g.1) in absurd never
part_onto levels (term.Case mode.Rigid a rows) g = let never : ⊥ = omega (arith, g.1) in absurd never
part_onto levels (term.Case mode.Flex a rows) g = let never : ⊥ = omega (arith, g.1) in absurd never

apply_onto : (levels : ℕ) (t : Term) → Tagged levels 64 t → (q : Term × Term) × TwoGood levels q × (apply_term q ≡ t)
apply_onto levels (term.Apply f a) g = ((f, a), ((g.0.0.0, g.0.1.0), (g.0.0.1, g.0.1.1)), refl)
apply_onto levels (term.Variable x) g = let never : ⊥ = omega (arith, g.1) in absurd never
apply_onto levels (term.Literal (lit.Int n)) g = let never : ⊥ = omega (arith, g.1) in absurd never
apply_onto levels (term.Literal (lit.Char c)) g = let never : ⊥ = omega (arith, g.1) in absurd never
apply_onto levels (term.Whole h ts) g = let never : ⊥ = omega (arith, g.1) in absurd never
apply_onto levels (term.Part h ts) g = let never : ⊥ = omega (arith, g.1) in absurd never
apply_onto levels (term.Let x a b) g = let never : ⊥ = omega (arith, g.1) in absurd never
apply_onto levels (term.Free x t) g = let never : ⊥ = omega (arith, g.1) in absurd never
apply_onto levels (term.Or a b) g = let never : ⊥ = omega (arith, g.1) in absurd never
apply_onto levels (term.Case mode.Rigid a rows) g = let never : ⊥ = omega (arith, g.1) in absurd never
apply_onto levels (term.Case mode.Flex a rows) g = let never : ⊥ = omega (arith, g.1) in absurd never

or_onto : (levels : ℕ) (t : Term) → Tagged levels 111 t → (q : Term × Term) × TwoGood levels q × (or_term q ≡ t)
or_onto levels (term.Or a b) g = ((a, b), ((g.0.0.0, g.0.1.0), (g.0.0.1, g.0.1.1)), refl)
or_onto levels (term.Variable x) g = let never : ⊥ = omega (arith, g.1) in absurd never
or_onto levels (term.Literal (lit.Int n)) g = let never : ⊥ = omega (arith, g.1) in absurd never
or_onto levels (term.Literal (lit.Char c)) g = let never : ⊥ = omega (arith, g.1) in absurd never
or_onto levels (term.Whole h ts) g = let never : ⊥ = omega (arith, g.1) in absurd never
or_onto levels (term.Part h ts) g = let never : ⊥ = omega (arith, g.1) in absurd never
or_onto levels (term.Apply f a) g = let never : ⊥ = omega (arith, g.1) in absurd never
or_onto levels (term.Let x a b) g = let never : ⊥ = omega (arith, g.1) in absurd never
or_onto levels (term.Free x t) g = let never : ⊥ = omega (arith, g.1) in absurd never
or_onto levels (term.Case mode.Rigid a rows) g = let never : ⊥ = omega (arith, g.1) in absurd never
or_onto levels (term.Case mode.Flex a rows) g = let never : ⊥ = omega (arith, g.1) in absurd never

let_onto : (levels : ℕ) (t : Term) → Tagged levels 108 t → (q : ℕ × (Term × Term)) × PairGood FitsIn32 (λ x. TwoGood levels) q × (let_term q ≡ t)
let_onto levels (term.Let x a b) g = ((x, (a, b)), (g.0.0.0, ((g.0.0.1, g.0.1.0), (g.0.0.2, g.0.1.1))), refl)
let_onto levels (term.Variable x) g = let never : ⊥ = omega (arith, g.1) in absurd never
let_onto levels (term.Literal (lit.Int n)) g = let never : ⊥ = omega (arith, g.1) in absurd never
let_onto levels (term.Literal (lit.Char c)) g = let never : ⊥ = omega (arith, g.1) in absurd never
let_onto levels (term.Whole h ts) g = let never : ⊥ = omega (arith, g.1) in absurd never
let_onto levels (term.Part h ts) g = let never : ⊥ = omega (arith, g.1) in absurd never
let_onto levels (term.Apply f a) g = let never : ⊥ = omega (arith, g.1) in absurd never
let_onto levels (term.Free x t) g = let never : ⊥ = omega (arith, g.1) in absurd never
let_onto levels (term.Or a b) g = let never : ⊥ = omega (arith, g.1) in absurd never
let_onto levels (term.Case mode.Rigid a rows) g = let never : ⊥ = omega (arith, g.1) in absurd never
let_onto levels (term.Case mode.Flex a rows) g = let never : ⊥ = omega (arith, g.1) in absurd never

free_onto : (levels : ℕ) (t : Term) → Tagged levels 110 t → (q : ℕ × Term) × PairGood FitsIn32 (λ x. TermGood levels) q × (free_term q ≡ t)
free_onto levels (term.Free x t) g = ((x, t), (g.0.0.0, (g.0.0.1, g.0.1)), refl)
free_onto levels (term.Variable x) g = let never : ⊥ = omega (arith, g.1) in absurd never
free_onto levels (term.Literal (lit.Int n)) g = let never : ⊥ = omega (arith, g.1) in absurd never
free_onto levels (term.Literal (lit.Char c)) g = let never : ⊥ = omega (arith, g.1) in absurd never
free_onto levels (term.Whole h ts) g = let never : ⊥ = omega (arith, g.1) in absurd never
free_onto levels (term.Part h ts) g = let never : ⊥ = omega (arith, g.1) in absurd never
free_onto levels (term.Apply f a) g = let never : ⊥ = omega (arith, g.1) in absurd never
free_onto levels (term.Let x a b) g = let never : ⊥ = omega (arith, g.1) in absurd never
free_onto levels (term.Or a b) g = let never : ⊥ = omega (arith, g.1) in absurd never
free_onto levels (term.Case mode.Rigid a rows) g = let never : ⊥ = omega (arith, g.1) in absurd never
free_onto levels (term.Case mode.Flex a rows) g = let never : ⊥ = omega (arith, g.1) in absurd never

case_count : (levels : ℕ) (rows : Alternatives) → FitsIn64 (alternative_count rows) → 0 < levels → CountFits levels (alternative_count rows)
case_count zero rows f more = let never : ⊥ = omega arith in absurd never
case_count (suc levels) rows f more = omega arith

rigid_onto : (levels : ℕ) → 0 < levels → (t : Term) → Tagged levels 114 t → (q : ℕ × (Term × List (Pattern × Term))) × CaseGood levels q × (case_term mode.Rigid q ≡ t)
rigid_onto levels e (term.Case mode.Rigid a rows) g = ((alternative_count rows, (a, rows_of rows)), (case_count levels rows g.0.0.0 e, ((g.0.0.1, g.0.1.0), (rows_length rows, rows_good levels rows g.0.0.2 g.0.1.1))), ap (term.Case mode.Rigid a) (rows_again rows))
rigid_onto levels e (term.Variable x) g = let never : ⊥ = omega (arith, g.1) in absurd never
rigid_onto levels e (term.Literal (lit.Int n)) g = let never : ⊥ = omega (arith, g.1) in absurd never
rigid_onto levels e (term.Literal (lit.Char c)) g = let never : ⊥ = omega (arith, g.1) in absurd never
rigid_onto levels e (term.Whole h ts) g = let never : ⊥ = omega (arith, g.1) in absurd never
rigid_onto levels e (term.Part h ts) g = let never : ⊥ = omega (arith, g.1) in absurd never
rigid_onto levels e (term.Apply f a) g = let never : ⊥ = omega (arith, g.1) in absurd never
rigid_onto levels e (term.Let x a b) g = let never : ⊥ = omega (arith, g.1) in absurd never
rigid_onto levels e (term.Free x t) g = let never : ⊥ = omega (arith, g.1) in absurd never
rigid_onto levels e (term.Or a b) g = let never : ⊥ = omega (arith, g.1) in absurd never
rigid_onto levels e (term.Case mode.Flex a rows) g = let never : ⊥ = omega (arith, g.1) in absurd never

flex_onto : (levels : ℕ) → 0 < levels → (t : Term) → Tagged levels 102 t → (q : ℕ × (Term × List (Pattern × Term))) × CaseGood levels q × (case_term mode.Flex q ≡ t)
flex_onto levels e (term.Case mode.Flex a rows) g = ((alternative_count rows, (a, rows_of rows)), (case_count levels rows g.0.0.0 e, ((g.0.0.1, g.0.1.0), (rows_length rows, rows_good levels rows g.0.0.2 g.0.1.1))), ap (term.Case mode.Flex a) (rows_again rows))
flex_onto levels e (term.Variable x) g = let never : ⊥ = omega (arith, g.1) in absurd never
flex_onto levels e (term.Literal (lit.Int n)) g = let never : ⊥ = omega (arith, g.1) in absurd never
flex_onto levels e (term.Literal (lit.Char c)) g = let never : ⊥ = omega (arith, g.1) in absurd never
flex_onto levels e (term.Whole h ts) g = let never : ⊥ = omega (arith, g.1) in absurd never
flex_onto levels e (term.Part h ts) g = let never : ⊥ = omega (arith, g.1) in absurd never
flex_onto levels e (term.Apply f a) g = let never : ⊥ = omega (arith, g.1) in absurd never
flex_onto levels e (term.Let x a b) g = let never : ⊥ = omega (arith, g.1) in absurd never
flex_onto levels e (term.Free x t) g = let never : ⊥ = omega (arith, g.1) in absurd never
flex_onto levels e (term.Or a b) g = let never : ⊥ = omega (arith, g.1) in absurd never
flex_onto levels e (term.Case mode.Rigid a rows) g = let never : ⊥ = omega (arith, g.1) in absurd never

int_into : (levels : ℕ) (l : Lit) → IsInt l → Tagged levels 105 (term.Literal l) × (term_tail (term.Literal l) ≡ literal_tail l)
int_into levels (lit.Int n) h = (((h, tt), refl), refl)
int_into levels (lit.Char c) h = absurd h

char_into : (levels : ℕ) (l : Lit) → IsChar l → Tagged levels 104 (term.Literal l) × (term_tail (term.Literal l) ≡ literal_tail l)
char_into levels (lit.Char c) h = (((h, tt), refl), refl)
char_into levels (lit.Int n) h = absurd h

whole_into : (levels : ℕ) (q : Head × (ℕ × List Term)) → CallGood levels q → Tagged levels 119 (whole_term q) × (term_tail (whole_term q) ≡ call_text q)
whole_into levels q g =
    let counted : term_count (term_list q.1.1) ≡ q.1.0 = list_count q.1.1 ∙ g.1.1.0 in
    let ranges = list_in_range levels q.1.1 g.1.1.1 in (
      (((g.0, subst FitsIn64 (sym counted) (fits_64 levels q.1.0 g.1.0), ranges.0), ranges.1), refl),
      ap₂ (λ (n : ℕ) (z : List ℕ). head_text q.0 ++ (count_text n ++ z)) counted (list_texts q.1.1),
    )

part_into : (levels : ℕ) (q : Head × (ℕ × List Term)) → CallGood levels q → Tagged levels 113 (part_term q) × (term_tail (part_term q) ≡ call_text q)
part_into levels q g =
    let counted : term_count (term_list q.1.1) ≡ q.1.0 = list_count q.1.1 ∙ g.1.1.0 in
    let ranges = list_in_range levels q.1.1 g.1.1.1 in (
      (((g.0, subst FitsIn64 (sym counted) (fits_64 levels q.1.0 g.1.0), ranges.0), ranges.1), refl),
      ap₂ (λ (n : ℕ) (z : List ℕ). head_text q.0 ++ (count_text n ++ z)) counted (list_texts q.1.1),
    )

abbrev CaseTagged : ℕ → Mode → Term → Type 0
CaseTagged levels m = IsTagged term_tag (TermGood (suc levels)) (mode_tag m)

case_into : (levels : ℕ) (m : Mode) (q : ℕ × (Term × List (Pattern × Term))) → CaseGood levels q
    → CaseTagged levels m (case_term m q) × (term_tail (case_term m q) ≡ case_text q)
case_into levels m q g =
    let counted : alternative_count (alternative_list q.1.1) ≡ q.0 = row_count q.1.1 ∙ g.1.1.0 in
    let ranges = rows_in_range levels q.1.1 g.1.1.1 in (
      (((subst FitsIn64 (sym counted) (fits_64 levels q.0 g.0), g.1.0.0, ranges.0), (g.1.0.1, ranges.1)), refl),
      ap₂ (λ (n : ℕ) (z : List ℕ). count_text n ++ (32 ∷ (term_text q.1.0 ++ z))) counted (row_texts q.1.1),
    )

-- ---- parts

call_reads : (levels : ℕ) (r : Reader Term) → ((e : ℕ) → levels ≡ suc e → Reads no_digit r term_text (TermGood levels)) → Reads no_digit (call_at levels r) call_text (CallGood levels)
call_reads levels r reads =
    pair_reads no_digit no_digit head_at (λ h. pair (count_at levels) (λ n. many (part_at r) n)) head_text (λ h. counted_text) HeadInRange
    (λ h. PairGood (CountFits levels) (ManyGood (TermGood levels))) head_reads
    (λ h g.
    pair_reads no_digit no_digit (count_at levels) (λ n. many (part_at r) n) count_text (λ n. flat_map (after_space term_text)) (CountFits levels) (ManyGood (TermGood levels))
    (count_reads levels) (λ n i. parts_reads levels r term_text (TermGood levels) reads n i)
    (λ n ts rest g i e. parts_apart term_text ts rest e))
    (λ h q rest g i e. refl)

two_reads : (levels : ℕ) (r : Reader Term) → Reads no_digit r term_text (TermGood levels) → Reads no_digit (two_at r) two_text (TwoGood levels)
two_reads levels r reads =
    pair_reads no_digit no_digit (part_at r) (λ t. part_at r) (after_space term_text) (λ t. after_space term_text) (TermGood levels) (λ t. TermGood levels)
    (after_reads no_digit (codes " ") r term_text (TermGood levels) reads) (λ t g. after_reads no_digit (codes " ") r term_text (TermGood levels) reads)
    (λ t u rest g h e. refl)

row_reads : (levels : ℕ) (r : Reader Term) (q : Reader Pattern) → Reads no_digit r term_text (TermGood levels) → Reads no_digit q pattern_text (PatternGood levels)
    → Reads no_digit (alternative_at r q) row_text (RowGood levels)
row_reads levels r q reads patterns =
    pair_reads no_digit no_digit (part_at q) (λ p. part_at r) (after_space pattern_text) (λ p. after_space term_text) (PatternGood levels) (λ p. TermGood levels)
    (after_reads no_digit (codes " ") q pattern_text (PatternGood levels) patterns) (λ p g. after_reads no_digit (codes " ") r term_text (TermGood levels) reads)
    (λ p t rest g h e. refl)

rows_apart : (rows : List (Pattern × Term)) (rest : List ℕ) → Ends no_digit rest → Ends no_digit (flat_map row_text rows ++ rest)
rows_apart [] rest e = e
rows_apart (a ∷ rows) rest e = refl

case_reads : (levels : ℕ) (r : Reader Term) (q : Reader Pattern) → Reads no_digit r term_text (TermGood levels) → Reads no_digit q pattern_text (PatternGood levels)
    → Reads no_digit (case_at levels r q) case_text (CaseGood levels)
case_reads levels r q reads patterns =
    pair_reads no_digit no_digit (count_at levels) (λ n. pair (part_at r) (λ t. many (alternative_at r q) n)) count_text
    (λ n. pair_text (after_space term_text) (λ t. flat_map row_text)) (CountFits levels) (λ n. PairGood (TermGood levels) (λ t. ManyGood (RowGood levels) n)) (count_reads levels)
    (λ n g.
    pair_reads no_digit no_digit (part_at r) (λ t. many (alternative_at r q) n) (after_space term_text) (λ t. flat_map row_text) (TermGood levels) (λ t. ManyGood (RowGood levels) n)
    (after_reads no_digit (codes " ") r term_text (TermGood levels) reads)
    (λ t h. many_reads no_digit (alternative_at r q) row_text (RowGood levels) (row_reads levels r q reads patterns) (λ a rest i. refl) n)
    (λ t rows rest g h e. rows_apart rows rest e))
    (λ n p rest g h e. refl)

-- ---- the table

abbrev NotPlain : ℕ → Type 0
NotPlain b = (nat_eq b 120 ≡ false) × (nat_eq b 105 ≡ false) × (nat_eq b 104 ≡ false) × (nat_eq b 119 ≡ false) × (nat_eq b 113 ≡ false)

abbrev IsDeep : Term → Type 0
IsDeep (term.Variable x) = ⊥
IsDeep (term.Literal l) = ⊥
IsDeep (term.Whole h ts) = ⊥
IsDeep (term.Part h ts) = ⊥
IsDeep t = Unit {0}

abbrev NoDeep : ℕ → ℕ → Type 0
NoDeep levels b = (t : Term) → IsDeep t → TermGood (suc levels) t → term_tag t ≡ b → ⊥

no_term : (levels b : ℕ) → NotPlain b → NoDeep levels b → (t : Term) → TermGood (suc levels) t → term_tag t ≡ b → ⊥
no_term levels b others deep (term.Variable x) g e = let t = eq-eqb b 120 (sym e) in let f = others.0 in cc
no_term levels b others deep (term.Literal (lit.Int n)) g e = let t = eq-eqb b 105 (sym e) in let f = others.1 in cc
no_term levels b others deep (term.Literal (lit.Char c)) g e = let t = eq-eqb b 104 (sym e) in let f = others.2 in cc
no_term levels b others deep (term.Whole h ts) g e = let t = eq-eqb b 119 (sym e) in let f = others.3 in cc
no_term levels b others deep (term.Part h ts) g e = let t = eq-eqb b 113 (sym e) in let f = others.4 in cc
no_term levels b others deep (term.Apply f a) g e = deep (term.Apply f a) tt g e
no_term levels b others deep (term.Let x a c) g e = deep (term.Let x a c) tt g e
no_term levels b others deep (term.Free x t) g e = deep (term.Free x t) tt g e
no_term levels b others deep (term.Or a c) g e = deep (term.Or a c) tt g e
no_term levels b others deep (term.Case m a rows) g e = deep (term.Case m a rows) tt g e

abbrev terms_from_113 : ℕ → Reader Term → ℕ → Option (Reader Term)
terms_from_113 levels r b = cond (nat_eq b 113) (Some (made part_term (call_at levels r))) None

abbrev terms_from_119 : ℕ → Reader Term → ℕ → Option (Reader Term)
terms_from_119 levels r b = cond (nat_eq b 119) (Some (made whole_term (call_at levels r))) (terms_from_113 levels r b)

abbrev terms_from_104 : ℕ → Reader Term → ℕ → Option (Reader Term)
terms_from_104 levels r b = cond (nat_eq b 104) (Some (made term.Literal character_at)) (terms_from_119 levels r b)

abbrev terms_from_105 : ℕ → Reader Term → ℕ → Option (Reader Term)
terms_from_105 levels r b = cond (nat_eq b 105) (Some (made term.Literal integer_at)) (terms_from_104 levels r b)

plain_entries : (levels : ℕ) (r : Reader Term) → ((e : ℕ) → levels ≡ suc e → Reads no_digit r term_text (TermGood levels))
    → (b : ℕ) → NoDeep levels b → Entry no_digit term_tag term_tail (TermGood (suc levels)) b (plain_terms levels r b)
plain_entries levels r reads b deep =
    entry_if no_digit term_tag term_tail (TermGood (suc levels)) b 120 (made term.Variable small_at) (terms_from_105 levels r b)
    (made_reads no_digit term.Variable small_at decimal term_tail FitsIn32 (Tagged levels 120) small_reads (variable_onto levels) (λ x g. (((g, tt), refl), refl)))
    (λ v.
    entry_if no_digit term_tag term_tail (TermGood (suc levels)) b 105 (made term.Literal integer_at) (terms_from_104 levels r b)
    (made_reads no_digit term.Literal integer_at literal_tail term_tail IsInt (Tagged levels 105) integer_reads (int_onto levels) (int_into levels))
    (λ w.
    entry_if no_digit term_tag term_tail (TermGood (suc levels)) b 104 (made term.Literal character_at) (terms_from_119 levels r b)
    (made_reads no_digit term.Literal character_at literal_tail term_tail IsChar (Tagged levels 104) character_reads (char_onto levels) (char_into levels))
    (λ x.
    entry_if no_digit term_tag term_tail (TermGood (suc levels)) b 119 (made whole_term (call_at levels r)) (terms_from_113 levels r b)
    (made_reads no_digit whole_term (call_at levels r) call_text term_tail (CallGood levels) (Tagged levels 119) (call_reads levels r reads) (whole_onto levels) (whole_into levels))
    (λ y.
    entry_if no_digit term_tag term_tail (TermGood (suc levels)) b 113 (made part_term (call_at levels r)) None
    (made_reads no_digit part_term (call_at levels r) call_text term_tail (CallGood levels) (Tagged levels 113) (call_reads levels r reads) (part_onto levels) (part_into levels))
    (λ z. no_term levels b (v, w, x, y, z) deep)))))

shallow : (b : ℕ) → NoDeep 0 b
shallow b (term.Variable x) d g e = d
shallow b (term.Literal l) d g e = d
shallow b (term.Whole h ts) d g e = d
shallow b (term.Part h ts) d g e = d
shallow b (term.Apply f a) d g e = g.1.0
shallow b (term.Let x a c) d g e = g.1.0
shallow b (term.Free x t) d g e = g.1
shallow b (term.Or a c) d g e = g.1.0
shallow b (term.Case m a rows) d g e = g.1.0

abbrev NotDeep : ℕ → Type 0
NotDeep b = (nat_eq b 64 ≡ false) × (nat_eq b 108 ≡ false) × (nat_eq b 110 ≡ false) × (nat_eq b 111 ≡ false) × (nat_eq b 114 ≡ false) × (nat_eq b 102 ≡ false)

none_deep : (levels b : ℕ) → NotDeep b → NoDeep levels b
none_deep levels b others (term.Variable x) d g e = d
none_deep levels b others (term.Literal l) d g e = d
none_deep levels b others (term.Whole h ts) d g e = d
none_deep levels b others (term.Part h ts) d g e = d
none_deep levels b others (term.Apply f a) d g e = let t = eq-eqb b 64 (sym e) in let f = others.0 in cc
none_deep levels b others (term.Let x a c) d g e = let t = eq-eqb b 108 (sym e) in let f = others.1 in cc
none_deep levels b others (term.Free x u) d g e = let t = eq-eqb b 110 (sym e) in let f = others.2 in cc
none_deep levels b others (term.Or a c) d g e = let t = eq-eqb b 111 (sym e) in let f = others.3 in cc
none_deep levels b others (term.Case mode.Rigid a rows) d g e = let t = eq-eqb b 114 (sym e) in let f = others.4 in cc
none_deep levels b others (term.Case mode.Flex a rows) d g e = let t = eq-eqb b 102 (sym e) in let f = others.5 in cc

abbrev terms_from_102 : ℕ → Reader Term → Reader Pattern → ℕ → Option (Reader Term)
terms_from_102 e r q b = cond (nat_eq b 102) (Some (made (case_term mode.Flex) (case_at (suc e) r q))) (plain_terms (suc e) r b)

abbrev terms_from_114 : ℕ → Reader Term → Reader Pattern → ℕ → Option (Reader Term)
terms_from_114 e r q b = cond (nat_eq b 114) (Some (made (case_term mode.Rigid) (case_at (suc e) r q))) (terms_from_102 e r q b)

abbrev terms_from_111 : ℕ → Reader Term → Reader Pattern → ℕ → Option (Reader Term)
terms_from_111 e r q b = cond (nat_eq b 111) (Some (made or_term (two_at r))) (terms_from_114 e r q b)

abbrev terms_from_110 : ℕ → Reader Term → Reader Pattern → ℕ → Option (Reader Term)
terms_from_110 e r q b = cond (nat_eq b 110) (Some (made free_term (pair small_at (λ x. part_at r)))) (terms_from_111 e r q b)

abbrev terms_from_108 : ℕ → Reader Term → Reader Pattern → ℕ → Option (Reader Term)
terms_from_108 e r q b = cond (nat_eq b 108) (Some (made let_term (pair small_at (λ x. two_at r)))) (terms_from_110 e r q b)

deep_entries : (e : ℕ) (r : Reader Term) (q : Reader Pattern) → Reads no_digit r term_text (TermGood (suc e)) → Reads no_digit q pattern_text (PatternGood (suc e))
    → (b : ℕ) → Entry no_digit term_tag term_tail (TermGood (suc (suc e))) b (term_table (suc e) r q b)
deep_entries e r q reads patterns b =
    entry_if no_digit term_tag term_tail (TermGood (suc (suc e))) b 64 (made apply_term (two_at r)) (terms_from_108 e r q b)
    (made_reads no_digit apply_term (two_at r) two_text term_tail (TwoGood (suc e)) (Tagged (suc e) 64) (two_reads (suc e) r reads) (apply_onto (suc e))
    (λ p g. ((((g.0.0, g.1.0), (g.0.1, g.1.1)), refl), refl)))
    (λ u.
    entry_if no_digit term_tag term_tail (TermGood (suc (suc e))) b 108 (made let_term (pair small_at (λ x. two_at r))) (terms_from_110 e r q b)
    (made_reads no_digit let_term (pair small_at (λ x. two_at r)) (pair_text decimal (λ x. two_text)) term_tail (PairGood FitsIn32 (λ x. TwoGood (suc e))) (Tagged (suc e) 108)
    (pair_reads no_digit no_digit small_at (λ x. two_at r) decimal (λ x. two_text) FitsIn32 (λ x. TwoGood (suc e)) small_reads (λ x g. two_reads (suc e) r reads) (λ x p rest g h i. refl))
    (let_onto (suc e)) (λ p g. ((((g.0, g.1.0.0, g.1.1.0), (g.1.0.1, g.1.1.1)), refl), refl)))
    (λ v.
    entry_if no_digit term_tag term_tail (TermGood (suc (suc e))) b 110 (made free_term (pair small_at (λ x. part_at r))) (terms_from_111 e r q b)
    (made_reads no_digit free_term (pair small_at (λ x. part_at r)) (pair_text decimal (λ x. after_space term_text)) term_tail (PairGood FitsIn32 (λ x. TermGood (suc e))) (Tagged (suc e) 110)
    (pair_reads no_digit no_digit small_at (λ x. part_at r) decimal (λ x. after_space term_text) FitsIn32 (λ x. TermGood (suc e)) small_reads
    (λ x g. after_reads no_digit (codes " ") r term_text (TermGood (suc e)) reads) (λ x p rest g h i. refl))
    (free_onto (suc e)) (λ p g. ((((g.0, g.1.0), g.1.1), refl), refl)))
    (λ w.
    entry_if no_digit term_tag term_tail (TermGood (suc (suc e))) b 111 (made or_term (two_at r)) (terms_from_114 e r q b)
    (made_reads no_digit or_term (two_at r) two_text term_tail (TwoGood (suc e)) (Tagged (suc e) 111) (two_reads (suc e) r reads) (or_onto (suc e))
    (λ p g. ((((g.0.0, g.1.0), (g.0.1, g.1.1)), refl), refl)))
    (λ x.
    entry_if no_digit term_tag term_tail (TermGood (suc (suc e))) b 114 (made (case_term mode.Rigid) (case_at (suc e) r q)) (terms_from_102 e r q b)
    (made_reads no_digit (case_term mode.Rigid) (case_at (suc e) r q) case_text term_tail (CaseGood (suc e)) (Tagged (suc e) 114) (case_reads (suc e) r q reads patterns)
    (rigid_onto (suc e) (omega arith)) (case_into (suc e) mode.Rigid))
    (λ y.
    entry_if no_digit term_tag term_tail (TermGood (suc (suc e))) b 102 (made (case_term mode.Flex) (case_at (suc e) r q)) (plain_terms (suc e) r b)
    (made_reads no_digit (case_term mode.Flex) (case_at (suc e) r q) case_text term_tail (CaseGood (suc e)) (Tagged (suc e) 102) (case_reads (suc e) r q reads patterns)
    (flex_onto (suc e) (omega arith)) (case_into (suc e) mode.Flex))
    (λ z. plain_entries (suc e) r (λ f i. reads) b (none_deep (suc e) b (u, v, w, x, y, z))))))))

term_choice : (levels : ℕ) (r : Reader Term) (q : Reader Pattern) → ((b : ℕ) → Entry no_digit term_tag term_tail (TermGood (suc levels)) b (term_table levels r q b))
    → Reads no_digit (choose (term_table levels r q)) term_text (TermGood (suc levels))
term_choice levels r q entries =
    same_reads no_digit (choose (term_table levels r q)) (tagged_text term_tag term_tail) term_text (TermGood (suc levels)) (TermGood (suc levels))
    (choose_reads no_digit (term_table levels r q) term_tag term_tail (TermGood (suc levels)) (term.Variable 0) (omega arith, tt) entries)
    (λ t g. (g, term_is t)) (λ t g. g)

-- the reader of terms that are nested at most so deep
pub term_reads : (levels : ℕ) → Reads no_digit (term_at (suc levels)) term_text (TermGood (suc levels))
term_reads zero =
    term_choice zero (term_at zero) (pattern_at zero)
    (λ b. plain_entries zero (term_at zero) (λ e h. let never : ⊥ = omega (arith, h) in absurd never) b (shallow b))
term_reads (suc e) =
    term_choice (suc e) (term_at (suc e)) (pattern_at (suc e)) (deep_entries e (term_at (suc e)) (pattern_at (suc e)) (term_reads e) (pattern_reads e))
