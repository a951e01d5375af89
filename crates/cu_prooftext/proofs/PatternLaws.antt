-- What is said of the reader of patterns.
use Rattle.std.proofs.Common.{◌≡◌, ℕ, zero, suc, ◌+◌, ◌^◌, ◌<◌, ◌≤◌, true, false, List, [], ◌∷◌, ◌++◌, Option, None, Some, length, refl, ap, ap₂, sym, ◌∙◌, subst, arith, codes, cond, decimal, nat_eq, eq-eqb, ℤ, pos, negsuc}
use Rattle.std.proofs.lemmas.Bool.Decides.{nat_tests}
use Rattle.std.specs.List.{AllByRecursion, flat_map}
use Rattle.cu_calculus.specs.Term as term
use Rattle.cu_calculus.specs.Term.{Pattern, Patterns}
use Rattle.cu_calculus.specs.Valid.{pattern_count}
use Rattle.cu_calculus.specs.declared.Lit.{Lit}
use Rattle.cu_calculus.specs.declared.Lit.TheVariants as lit
use Rattle.cu_prooftext.specs.Format.{FitsIn32, FitsIn64, PatternInRange, PatternIsNested, PatternsAreNested, PatternsInRange}
use Rattle.cu_prooftext.specs.Inside.Readers.{Reader, choose, made, many, pair}
use Rattle.cu_prooftext.specs.Inside.Reading.{at_most, built_at, built_pattern, character_at, count_at, index_at, integer_at, most_parts, named_pattern, part_at, pattern_at, pattern_list, pattern_table, plain_patterns, small_at, up_to}
use Rattle.cu_prooftext.specs.Text.{count_text, literal_text, pattern_text, patterns_after}
use Rattle.cu_prooftext.proofs.LoopLaws.{ManyGood, many_reads, none_reads}
use Rattle.cu_prooftext.proofs.NumberLaws as numbers
use Rattle.cu_prooftext.proofs.NumberLaws.{no_digit, number_reads}
use Rattle.cu_prooftext.proofs.ReaderLaws.{Ends, Entry, IsTagged, PairGood, Reads, after_reads, choose_reads, entry_if, made_reads, pair_reads, pair_text, tagged_text}
use Rattle.cu_prooftext.proofs.ValueLaws.{IsChar, IsInt, character_reads, index_reads, integer_reads, literal_tag, literal_tail, same_reads, small_reads}

-- ---- counts

abbrev pub CountFits : ℕ → ℕ → Type 0
CountFits levels n = n ≤ most_parts levels

most_is_small : (levels : ℕ) → most_parts levels < 10 ^ 64
most_is_small zero = omega arith
most_is_small (suc levels) = omega arith

pub count_reads : (levels : ℕ) → Reads no_digit (count_at levels) count_text (CountFits levels)
count_reads levels =
    after_reads no_digit (codes "/") (up_to (most_parts levels)) decimal (CountFits levels)
    (same_reads no_digit (up_to (most_parts levels)) decimal decimal (λ n. at_most (most_parts levels) n ≡ true) (CountFits levels)
    (number_reads (at_most (most_parts levels)) (at_most (most_parts levels)) (numbers.up_to (most_parts levels) (most_is_small levels)))
    (λ n h. (grind (arith, nat_tests), refl)) (λ n h. grind (arith, nat_tests)))

-- a space and what follows it stop a number
pub space_ends : (rest : List ℕ) → Ends no_digit (codes " " ++ rest)
space_ends rest = refl

pub slash_ends : (rest : List ℕ) → Ends no_digit (codes "/" ++ rest)
slash_ends rest = refl

abbrev pub after_space : {A : Type 0} → (A → List ℕ) → A → List ℕ
after_space t x = codes " " ++ t x

-- so many parts, each after a space, where there is a reader of parts if there may be one
pub parts_reads : {A : Type 0} (levels : ℕ) (r : Reader A) (t : A → List ℕ) (G : A → Type 0)
    → ((e : ℕ) → levels ≡ suc e → Reads no_digit r t G) → (n : ℕ) → CountFits levels n
    → Reads no_digit (many (part_at r) n) (flat_map (after_space t)) (ManyGood G n)
parts_reads zero r t G reads zero h = none_reads no_digit (part_at r) (after_space t) G
parts_reads zero r t G reads (suc n) h = let never : ⊥ = omega (arith, h) in absurd never
parts_reads (suc e) r t G reads n h =
    many_reads no_digit (part_at r) (after_space t) G (after_reads no_digit (codes " ") r t G (reads e refl)) (λ x rest g. refl) n

-- after a count, parts or what stops a number follow
pub parts_apart : {A : Type 0} (t : A → List ℕ) (xs : List A) (rest : List ℕ) → Ends no_digit rest → Ends no_digit (flat_map (after_space t) xs ++ rest)
parts_apart t [] rest e = e
parts_apart t (x ∷ xs) rest e = refl

-- ---- lists of patterns

abbrev pub PatternGood : ℕ → Pattern → Type 0
PatternGood levels p = PatternInRange p × PatternIsNested levels p

abbrev listed : Patterns → List Pattern
listed term.NoPattern = []
listed (term.MorePatterns p ps) = p ∷ listed ps

listed_again : (ps : Patterns) → pattern_list (listed ps) ≡ ps
listed_again term.NoPattern = refl
listed_again (term.MorePatterns p ps) = ap (term.MorePatterns p) (listed_again ps)

listed_length : (ps : Patterns) → length (listed ps) ≡ pattern_count ps
listed_length term.NoPattern = refl
listed_length (term.MorePatterns p ps) = omega (arith, listed_length ps)

list_count : (ps : List Pattern) → pattern_count (pattern_list ps) ≡ length ps
list_count [] = refl
list_count (p ∷ ps) = omega (arith, list_count ps)

list_texts : (ps : List Pattern) → patterns_after (pattern_list ps) ≡ flat_map (after_space pattern_text) ps
list_texts [] = refl
list_texts (p ∷ ps) = ap (λ (z : List ℕ). 32 ∷ (pattern_text p ++ z)) (list_texts ps)

listed_good : (levels : ℕ) (ps : Patterns) → PatternsInRange ps → PatternsAreNested levels ps → AllByRecursion (PatternGood levels) (listed ps)
listed_good levels term.NoPattern g n = tt
listed_good levels (term.MorePatterns p ps) g n = ((g.0, n.0), listed_good levels ps g.1 n.1)

list_in_range : (levels : ℕ) (ps : List Pattern) → AllByRecursion (PatternGood levels) ps → PatternsInRange (pattern_list ps) × PatternsAreNested levels (pattern_list ps)
list_in_range levels [] g = (tt, tt)
list_in_range levels (p ∷ ps) g = let more = list_in_range levels ps g.1 in ((g.0.0, more.0), (g.0.1, more.1))

none_nested : (ps : Patterns) → PatternsAreNested 0 ps → pattern_count ps ≡ 0
none_nested term.NoPattern n = refl
none_nested (term.MorePatterns p ps) n = absurd n.0

count_fits : (levels : ℕ) (ps : Patterns) → FitsIn64 (pattern_count ps) → PatternsAreNested levels ps → CountFits levels (pattern_count ps)
count_fits zero ps f n = omega (arith, none_nested ps n)
count_fits (suc levels) ps f n = omega arith

pub fits_64 : (levels n : ℕ) → CountFits levels n → FitsIn64 n
fits_64 zero n h = omega arith
fits_64 (suc levels) n h = omega arith

-- ---- tags

abbrev pattern_tag : Pattern → ℕ
pattern_tag (term.Any x) = 120
pattern_tag (term.Exactly l) = literal_tag l
pattern_tag (term.Built c ps) = 107
pattern_tag (term.Named x p) = 97

abbrev pattern_tail : Pattern → List ℕ
pattern_tail (term.Any x) = decimal x
pattern_tail (term.Exactly l) = literal_tail l
pattern_tail (term.Built c ps) = decimal c.0 ++ (count_text (pattern_count ps) ++ patterns_after ps)
pattern_tail (term.Named x p) = decimal x ++ (codes " " ++ pattern_text p)

pub int_is : (n : ℤ) → literal_text (lit.Int n) ≡ 105 ∷ literal_tail (lit.Int n)
int_is (pos n) = refl
int_is (negsuc n) = refl

pattern_is : (p : Pattern) → pattern_text p ≡ tagged_text pattern_tag pattern_tail p
pattern_is (term.Any x) = refl
pattern_is (term.Exactly (lit.Int n)) = int_is n
pattern_is (term.Exactly (lit.Char c)) = refl
pattern_is (term.Built c ps) = refl
pattern_is (term.Named x p) = refl

abbrev Tagged : ℕ → ℕ → Pattern → Type 0
Tagged levels = IsTagged pattern_tag (PatternGood (suc levels))

any_onto : (levels : ℕ) (p : Pattern) → Tagged levels 120 p → (x : ℕ) × FitsIn32 x × (term.Any x ≡ p)
any_onto levels (term.Any x) g = (x, g.0.0, refl)
any_onto levels (term.Exactly (lit.Int n)) g = let never : ⊥ = omega (arith, g.1) in absurd never
any_onto levels (term.Exactly (lit.Char c)) g = let never : ⊥ = omega (arith, g.1) in absurd never
any_onto levels (term.Built c ps) g = let never : ⊥ = omega (arith, g.1) in absurd never
any_onto levels (term.Named x p) g = let never : ⊥ = omega (arith, g.1) in absurd never

int_onto : (levels : ℕ) (p : Pattern) → Tagged levels 105 p → (l : Lit) × IsInt l × (term.Exactly l ≡ p)
int_onto levels (term.Exactly (lit.Int n)) g = (lit.Int n, g.0.0, refl)
int_onto levels (term.Any x) g = let never : ⊥ = omega (arith, g.1) in absurd never
int_onto levels (term.Exactly (lit.Char c)) g = let never : ⊥ = omega (arith, g.1) in absurd never
int_onto levels (term.Built c ps) g = let never : ⊥ = omega (arith, g.1) in absurd never
int_onto levels (term.Named x p) g = let never : ⊥ = omega (arith, g.1) in absurd never

int_into : (levels : ℕ) (l : Lit) → IsInt l → Tagged levels 105 (term.Exactly l) × (pattern_tail (term.Exactly l) ≡ literal_tail l)
int_into levels (lit.Int n) h = (((h, tt), refl), refl)
int_into levels (lit.Char c) h = absurd h

char_onto : (levels : ℕ) (p : Pattern) → Tagged levels 104 p → (l : Lit) × IsChar l × (term.Exactly l ≡ p)
char_onto levels (term.Exactly (lit.Char c)) g = (lit.Char c, g.0.0, refl)
char_onto levels (term.Any x) g = let never : ⊥ = omega (arith, g.1) in absurd never
char_onto levels (term.Exactly (lit.Int n)) g = let never : ⊥ = omega (arith, g.1) in absurd never
char_onto levels (term.Built c ps) g = let never : ⊥ = omega (arith, g.1) in absurd never
char_onto levels (term.Named x p) g = let never : ⊥ = omega (arith, g.1) in absurd never

char_into : (levels : ℕ) (l : Lit) → IsChar l → Tagged levels 104 (term.Exactly l) × (pattern_tail (term.Exactly l) ≡ literal_tail l)
char_into levels (lit.Char c) h = (((h, tt), refl), refl)
char_into levels (lit.Int n) h = absurd h

abbrev CountedPatterns : ℕ → ℕ × List Pattern → Type 0
CountedPatterns levels = PairGood (CountFits levels) (ManyGood (PatternGood levels))

abbrev BuiltGood : ℕ → ℕ × (ℕ × List Pattern) → Type 0
BuiltGood levels = PairGood FitsIn64 (λ c. CountedPatterns levels)

abbrev counted_text : ℕ × List Pattern → List ℕ
counted_text = pair_text count_text (λ n. flat_map (after_space pattern_text))

built_onto : (levels : ℕ) (p : Pattern) → Tagged levels 107 p → (q : ℕ × (ℕ × List Pattern)) × BuiltGood levels q × (built_pattern q ≡ p)
built_onto levels (term.Built c ps) g = (
  (c.0, (pattern_count ps, listed ps)),
  (g.0.0.0, (count_fits levels ps g.0.0.1 g.0.1, (listed_length ps, listed_good levels ps g.0.0.2 g.0.1))),
  ap (term.Built c) (listed_again ps),
)
built_onto levels (term.Any x) g = let never : ⊥ = omega (arith, g.1) in absurd never
built_onto levels (term.Exactly (lit.Int n)) g = let never : ⊥ = omega (arith, g.1) in absurd never
built_onto levels (term.Exactly (lit.Char c)) g = let never : ⊥ = omega (arith, g.1) in absurd never
built_onto levels (term.Named x p) g = let never : ⊥ = omega (arith, g.1) in absurd never

built_into : (levels : ℕ) (q : ℕ × (ℕ × List Pattern)) → BuiltGood levels q
    → Tagged levels 107 (built_pattern q) × (pattern_tail (built_pattern q) ≡ pair_text decimal (λ c. counted_text) q)
built_into levels q g =
    let counted : pattern_count (pattern_list q.1.1) ≡ q.1.0 = list_count q.1.1 ∙ g.1.1.0 in
    let ranges = list_in_range levels q.1.1 g.1.1.1 in
    let small : FitsIn64 q.1.0 = fits_64 levels q.1.0 g.1.0 in (
      (((g.0, subst FitsIn64 (sym counted) small, ranges.0), ranges.1), refl),
      ap₂ (λ (n : ℕ) (z : List ℕ). decimal q.0 ++ (count_text n ++ z)) counted (list_texts q.1.1),
    )

named_onto : (e : ℕ) (p : Pattern) → Tagged (suc e) 97 p → (q : ℕ × Pattern) × PairGood FitsIn32 (λ x. PatternGood (suc e)) q × (named_pattern q ≡ p)
named_onto e (term.Named x p) g = ((x, p), (g.0.0.0, (g.0.0.1, g.0.1)), refl)
named_onto e (term.Any x) g = let never : ⊥ = omega (arith, g.1) in absurd never
named_onto e (term.Exactly (lit.Int n)) g = let never : ⊥ = omega (arith, g.1) in absurd never
named_onto e (term.Exactly (lit.Char c)) g = let never : ⊥ = omega (arith, g.1) in absurd never
named_onto e (term.Built c ps) g = let never : ⊥ = omega (arith, g.1) in absurd never

abbrev NotOthers : ℕ → Type 0
NotOthers b = (nat_eq b 120 ≡ false) × (nat_eq b 105 ≡ false) × (nat_eq b 104 ≡ false) × (nat_eq b 107 ≡ false)

no_pattern : (levels b : ℕ) → NotOthers b → ((p : Pattern) (x : ℕ) → PatternGood (suc levels) (term.Named x p) → 97 ≡ b → ⊥)
    → (p : Pattern) → PatternGood (suc levels) p → pattern_tag p ≡ b → ⊥
no_pattern levels b others named (term.Any x) g e = let t = eq-eqb b 120 (sym e) in let f = others.0 in cc
no_pattern levels b others named (term.Exactly (lit.Int n)) g e = let t = eq-eqb b 105 (sym e) in let f = others.1 in cc
no_pattern levels b others named (term.Exactly (lit.Char c)) g e = let t = eq-eqb b 104 (sym e) in let f = others.2 in cc
no_pattern levels b others named (term.Built c ps) g e = let t = eq-eqb b 107 (sym e) in let f = others.3 in cc
no_pattern levels b others named (term.Named x p) g e = named p x g e

built_reads : (levels : ℕ) (r : Reader Pattern) → ((e : ℕ) → levels ≡ suc e → Reads no_digit r pattern_text (PatternGood levels))
    → Reads no_digit (built_at levels r) (pair_text decimal (λ c. counted_text)) (BuiltGood levels)
built_reads levels r reads =
    pair_reads no_digit no_digit index_at (λ c. pair (count_at levels) (λ n. many (part_at r) n)) decimal (λ c. counted_text) FitsIn64 (λ c. CountedPatterns levels) index_reads
    (λ c g.
    pair_reads no_digit no_digit (count_at levels) (λ n. many (part_at r) n) count_text (λ n. flat_map (after_space pattern_text)) (CountFits levels) (ManyGood (PatternGood levels))
    (count_reads levels) (λ n h. parts_reads levels r pattern_text (PatternGood levels) reads n h)
    (λ n ps rest g h e. parts_apart pattern_text ps rest e))
    (λ c q rest g h e. refl)

abbrev patterns_from_107 : ℕ → Reader Pattern → ℕ → Option (Reader Pattern)
patterns_from_107 levels r b = cond (nat_eq b 107) (Some (made built_pattern (built_at levels r))) None

abbrev patterns_from_104 : ℕ → Reader Pattern → ℕ → Option (Reader Pattern)
patterns_from_104 levels r b = cond (nat_eq b 104) (Some (made term.Exactly character_at)) (patterns_from_107 levels r b)

abbrev patterns_from_105 : ℕ → Reader Pattern → ℕ → Option (Reader Pattern)
patterns_from_105 levels r b = cond (nat_eq b 105) (Some (made term.Exactly integer_at)) (patterns_from_104 levels r b)

plain_entries : (levels : ℕ) (r : Reader Pattern) → ((e : ℕ) → levels ≡ suc e → Reads no_digit r pattern_text (PatternGood levels))
    → (b : ℕ) → ((p : Pattern) (x : ℕ) → PatternGood (suc levels) (term.Named x p) → 97 ≡ b → ⊥)
    → Entry no_digit pattern_tag pattern_tail (PatternGood (suc levels)) b (plain_patterns levels r b)
plain_entries levels r reads b named =
    entry_if no_digit pattern_tag pattern_tail (PatternGood (suc levels)) b 120 (made term.Any small_at) (patterns_from_105 levels r b)
    (made_reads no_digit term.Any small_at decimal pattern_tail FitsIn32 (Tagged levels 120) small_reads (any_onto levels) (λ x g. (((g, tt), refl), refl)))
    (λ w.
    entry_if no_digit pattern_tag pattern_tail (PatternGood (suc levels)) b 105 (made term.Exactly integer_at) (patterns_from_104 levels r b)
    (made_reads no_digit term.Exactly integer_at literal_tail pattern_tail IsInt (Tagged levels 105) integer_reads (int_onto levels) (int_into levels))
    (λ x.
    entry_if no_digit pattern_tag pattern_tail (PatternGood (suc levels)) b 104 (made term.Exactly character_at) (patterns_from_107 levels r b)
    (made_reads no_digit term.Exactly character_at literal_tail pattern_tail IsChar (Tagged levels 104) character_reads (char_onto levels) (char_into levels))
    (λ y.
    entry_if no_digit pattern_tag pattern_tail (PatternGood (suc levels)) b 107 (made built_pattern (built_at levels r)) None
    (made_reads no_digit built_pattern (built_at levels r) (pair_text decimal (λ c. counted_text)) pattern_tail (BuiltGood levels) (Tagged levels 107)
    (built_reads levels r reads) (built_onto levels) (built_into levels))
    (λ z. no_pattern levels b (w, x, y, z) named))))

pattern_entries : (levels : ℕ) (r : Reader Pattern) → ((e : ℕ) → levels ≡ suc e → Reads no_digit r pattern_text (PatternGood levels))
    → (b : ℕ) → Entry no_digit pattern_tag pattern_tail (PatternGood (suc levels)) b (pattern_table levels r b)
pattern_entries zero r reads b = plain_entries zero r reads b (λ p x g e. absurd g.1)
pattern_entries (suc e) r reads b =
    entry_if no_digit pattern_tag pattern_tail (PatternGood (suc (suc e))) b 97 (made named_pattern (pair small_at (λ x. part_at r))) (plain_patterns (suc e) r b)
    (made_reads no_digit named_pattern (pair small_at (λ x. part_at r)) (pair_text decimal (λ x. after_space pattern_text)) pattern_tail
    (PairGood FitsIn32 (λ x. PatternGood (suc e))) (Tagged (suc e) 97)
    (pair_reads no_digit no_digit small_at (λ x. part_at r) decimal (λ x. after_space pattern_text) FitsIn32 (λ x. PatternGood (suc e)) small_reads
    (λ x g. after_reads no_digit (codes " ") r pattern_text (PatternGood (suc e)) (reads e refl)) (λ x p rest g h i. refl))
    (named_onto e) (λ q g. ((((g.0, g.1.0), g.1.1), refl), refl)))
    (λ v. plain_entries (suc e) r reads b (λ p x g i. let t = eq-eqb b 97 (sym i) in cc))

pattern_choice : (levels : ℕ) → ((e : ℕ) → levels ≡ suc e → Reads no_digit (pattern_at levels) pattern_text (PatternGood levels))
    → Reads no_digit (choose (pattern_table levels (pattern_at levels))) pattern_text (PatternGood (suc levels))
pattern_choice levels reads =
    same_reads no_digit (choose (pattern_table levels (pattern_at levels))) (tagged_text pattern_tag pattern_tail) pattern_text (PatternGood (suc levels)) (PatternGood (suc levels))
    (choose_reads no_digit (pattern_table levels (pattern_at levels)) pattern_tag pattern_tail (PatternGood (suc levels)) (term.Any 0) (omega arith, tt)
    (pattern_entries levels (pattern_at levels) reads))
    (λ p g. (g, pattern_is p)) (λ p g. g)

-- the reader of patterns that are nested at most so deep
pub pattern_reads : (levels : ℕ) → Reads no_digit (pattern_at (suc levels)) pattern_text (PatternGood (suc levels))
pattern_reads zero = pattern_choice zero (λ e h. let never : ⊥ = omega (arith, h) in absurd never)
pattern_reads (suc levels) = pattern_choice (suc levels) (λ e h. pattern_reads levels)
