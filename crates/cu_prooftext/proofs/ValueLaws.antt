-- What is said of the readers of numbers, literals, heads and values.
use Rattle.std.proofs.Common.{◌≡◌, ℕ, suc, ◌+◌, ◌-◌, ◌/◌, ◌%◌, ◌^◌, ◌<◌, ◌≤◌, Bool, true, false, List, [], ◌∷◌, ◌++◌, Option, None, Some, Result, Ok, Err, refl, ap, sym, ◌∙◌, subst, append_assoc, ◌⊎◌, inl, inr, cond, arith, codes, decimal, nat_eq, nat_le, eq-eqb, IsTrue, pos, negsuc}
use Rattle.std.proofs.lemmas.Bool.{and_from, and_parts}
use Rattle.std.proofs.lemmas.Bool.Decides.{nat_tests}
use Rattle.std.proofs.lemmas.Fmt.{decimal_by_steps_wide}
use Rattle.cu_calculus.specs.Literal.{is_literal}
use Rattle.cu_calculus.specs.declared.Head.{Head}
use Rattle.cu_calculus.specs.declared.Head.TheVariants as head
use Rattle.cu_calculus.specs.declared.Lit.{Lit}
use Rattle.cu_calculus.specs.declared.Lit.TheVariants as lit
use Rattle.cu_values.specs.declared.cell.Cell.{Cell}
use Rattle.cu_values.specs.declared.cell.Cell.TheVariants as cell
use Rattle.cu_prooftext.specs.Format.{FitsIn32, FitsIn64, HeadInRange}
use Rattle.cu_prooftext.specs.Inside.Cells.{cell_text}
use Rattle.cu_prooftext.specs.Inside.Ranges.{leads_scalar, scalar}
use Rattle.cu_prooftext.specs.Inside.Readers.{Reader, digits_at, is_digit, made, pair}
use Rattle.cu_prooftext.specs.Inside.Reading.{at_most, between, cell_at, cell_table, character_at, constructed_cell, constructor_head, from_one, function_head, head_at, head_table, index_at, integer_at, negative, nothing, partial_cell, positive, set_head, small_at, small_count, up_to}
use Rattle.cu_prooftext.specs.Text.{count_text, head_text}
use Rattle.cu_prooftext.proofs.EitherLaws.{NotFirst, either_reads}
use Rattle.cu_prooftext.proofs.NumberLaws as numbers
use Rattle.cu_prooftext.proofs.NumberLaws.{no_digit, number_reads}
use Rattle.cu_prooftext.proofs.RangeLaws.{scalar_range}
use Rattle.cu_prooftext.proofs.ReaderLaws.{Ends, Entry, IsTagged, PairGood, Reads, Stopped, Took, after_reads, choose_reads, entry_if, made_reads, pair_reads, pair_text, tagged_text}

-- ---- nothing, and other words for the same

nothing_takes : {A : Type 0} (x : A) (bytes : List ℕ) (y : A) (rest : List ℕ) → nothing x bytes ≡ Ok (y, rest) → Took (nothing x) (λ z. []) (λ z. z ≡ x) bytes y rest
nothing_takes {A} x bytes y rest e =
    let same : (x, bytes) ≡ (y, rest) = cc e in
    let took : Took (nothing x) (λ z. []) (λ z. z ≡ x) bytes x bytes = record { splits = refl; good = refl; alike = λ b bs others i. refl } in
    subst (λ (z : A × List ℕ). Took (nothing x) (λ z. []) (λ z. z ≡ x) bytes z.0 z.1) same took

pub nothing_reads : {A : Type 0} (stop : ℕ → Bool) (x : A) → Reads stop (nothing x) (λ z. []) (λ z. z ≡ x)
nothing_reads {A} stop x = record {
  again = λ y rest g e. ap (λ (z : A). let m : Result (A × List ℕ) ℕ = Ok (z, rest) in m) (sym g);
  takes = nothing_takes x;
  stops = λ bytes n e. let never : ⊥ = cc e in absurd never;
  some = x;
  is_some = refl;
}

same_takes : {A : Type 0} (stop : ℕ → Bool) (r : Reader A) (t u : A → List ℕ) (G H : A → Type 0) → Reads stop r t G
    → ((x : A) → H x → G x × (u x ≡ t x)) → ((x : A) → G x → H x)
    → (bytes : List ℕ) (x : A) (rest : List ℕ) → r bytes ≡ Ok (x, rest) → Took r u H bytes x rest
same_takes stop r t u G H reads given back bytes x rest e =
    let a = reads.takes bytes x rest e in
    let h = back x a.good in
    record {
      splits = a.splits ∙ ap (λ (z : List ℕ). z ++ rest) (sym (given x h).1);
      good = h;
      alike = λ b bs others i. ap (λ (z : List ℕ). r (z ++ b ∷ others)) (given x h).1 ∙ a.alike b bs others i;
    }

same_stops : {A : Type 0} (stop : ℕ → Bool) (r : Reader A) (t u : A → List ℕ) (G H : A → Type 0) → Reads stop r t G
    → ((x : A) → H x → G x × (u x ≡ t x)) → ((x : A) → G x → H x)
    → (bytes : List ℕ) (n : ℕ) → r bytes ≡ Err n → Stopped r u H bytes n
same_stops stop r t u G H reads given back bytes n e =
    let st = reads.stops bytes n e in
    let h = back st.whole st.good in
    record {
      front = st.front;
      back = st.back;
      splits = st.splits;
      left = st.left;
      whole = st.whole;
      good = h;
      more = st.more;
      begun = (given st.whole h).1 ∙ st.begun;
      wrong = st.wrong;
    }

-- the same reader, by other words for its texts and for what has one
pub same_reads : {A : Type 0} (stop : ℕ → Bool) (r : Reader A) (t u : A → List ℕ) (G H : A → Type 0) → Reads stop r t G
    → ((x : A) → H x → G x × (u x ≡ t x)) → ((x : A) → G x → H x) → Reads stop r u H
same_reads stop r t u G H reads given back = record {
  again = λ x rest h e. ap (λ (z : List ℕ). r (z ++ rest)) (given x h).1 ∙ reads.again x rest (given x h).0 e;
  takes = same_takes stop r t u G H reads given back;
  stops = same_stops stop r t u G H reads given back;
  some = reads.some;
  is_some = back reads.some reads.is_some;
}

-- ---- numbers

abbrev pub DigitFirst : List ℕ → Type 0
DigitFirst [] = ⊥
DigitFirst (b ∷ bs) = is_digit b ≡ true

first_of : (n : ℕ) → n < 10 → (rest : List ℕ) → DigitFirst (((48 + n) ∷ []) ++ rest)
first_of n h rest = grind (arith, nat_tests)

-- a number begins with a digit
pub decimal_first : (n : ℕ) → n < 10 ^ 64 → (rest : List ℕ) → DigitFirst (decimal n ++ rest)
decimal_first n h =
    decimal_by_steps_wide (λ (n : ℕ) (ds : List ℕ). (rest : List ℕ) → DigitFirst (ds ++ rest)) first_of
    (λ n ds large before rest. subst DigitFirst (sym (append_assoc ds ((48 + n % 10) ∷ []) rest)) (before ((48 + n % 10) ∷ rest))) n h

pub no_minus : (bytes : List ℕ) → DigitFirst bytes → NotFirst 45 bytes
no_minus [] h = tt
no_minus (b ∷ bs) h = let parts = and_parts (nat_le 48 b) (nat_le b 57) h in grind (arith, nat_tests)

pub index_reads : Reads no_digit index_at decimal FitsIn64
index_reads =
    same_reads no_digit index_at decimal decimal (λ n. at_most 18446744073709551615 n ≡ true) FitsIn64
    (number_reads (at_most 18446744073709551615) (at_most 18446744073709551615) (numbers.up_to 18446744073709551615 (omega arith)))
    (λ n h. (grind (arith, nat_tests), refl)) (λ n h. grind (arith, nat_tests))

pub small_reads : Reads no_digit small_at decimal FitsIn32
small_reads =
    same_reads no_digit small_at decimal decimal (λ n. at_most 4294967295 n ≡ true) FitsIn32
    (number_reads (at_most 4294967295) (at_most 4294967295) (numbers.up_to 4294967295 (omega arith)))
    (λ n h. (grind (arith, nat_tests), refl)) (λ n h. grind (arith, nat_tests))

-- ---- literals

-- a literal after its mark
abbrev pub literal_tail : Lit → List ℕ
literal_tail (lit.Int (pos n)) = decimal n
literal_tail (lit.Int (negsuc n)) = 45 ∷ decimal (suc n)
literal_tail (lit.Char c) = decimal c

abbrev amount_text : Lit → List ℕ
amount_text (lit.Int (pos n)) = []
amount_text (lit.Int (negsuc n)) = decimal (suc n)
amount_text (lit.Char c) = []

abbrev IsNegative : Lit → Type 0
IsNegative (lit.Int (pos n)) = ⊥
IsNegative (lit.Int (negsuc n)) = suc n ≤ 170141183460469231731687303715884105728
IsNegative (lit.Char c) = ⊥

abbrev IsPositive : Lit → Type 0
IsPositive (lit.Int (pos n)) = n ≤ 170141183460469231731687303715884105727
IsPositive (lit.Int (negsuc n)) = ⊥
IsPositive (lit.Char c) = ⊥

abbrev pub IsInt : Lit → Type 0
IsInt (lit.Int n) = IsTrue (is_literal (lit.Int n))
IsInt (lit.Char c) = ⊥

abbrev pub IsChar : Lit → Type 0
IsChar (lit.Int n) = ⊥
IsChar (lit.Char c) = IsTrue (is_literal (lit.Char c))

negative_onto : (l : Lit) → IsNegative l → (n : ℕ) × (between 170141183460469231731687303715884105728 n ≡ true) × (negative n ≡ l)
negative_onto (lit.Int (pos n)) h = absurd h
negative_onto (lit.Int (negsuc n)) h =
    let low : nat_le 1 (suc n) ≡ true = grind (arith, nat_tests) in
    let high : nat_le (suc n) 170141183460469231731687303715884105728 ≡ true = grind (arith, nat_tests) in
    let same : suc n - 1 ≡ n = omega arith in
    (suc n, and_from (nat_le 1 (suc n)) (nat_le (suc n) 170141183460469231731687303715884105728) low high, ap (λ (k : ℕ). lit.Int (negsuc k)) same)
negative_onto (lit.Char c) h = absurd h

negative_into : (n : ℕ) → between 170141183460469231731687303715884105728 n ≡ true → IsNegative (negative n) × (amount_text (negative n) ≡ decimal n)
negative_into n h =
    let parts = and_parts (nat_le 1 n) (nat_le n 170141183460469231731687303715884105728) h in
    let low : 1 ≤ n = grind (arith, nat_tests) in
    let high : n ≤ 170141183460469231731687303715884105728 = grind (arith, nat_tests) in
    let same : suc (n - 1) ≡ n = omega arith in
    (omega arith, ap decimal same)

positive_onto : (l : Lit) → IsPositive l → (n : ℕ) × (at_most 170141183460469231731687303715884105727 n ≡ true) × (positive n ≡ l)
positive_onto (lit.Int (pos n)) h = (n, grind (arith, nat_tests), refl)
positive_onto (lit.Int (negsuc n)) h = absurd h
positive_onto (lit.Char c) h = absurd h

negative_reads : Reads no_digit (made negative (from_one 170141183460469231731687303715884105728)) amount_text IsNegative
negative_reads =
    made_reads no_digit negative (from_one 170141183460469231731687303715884105728) decimal amount_text (λ n. between 170141183460469231731687303715884105728 n ≡ true) IsNegative
    (number_reads (between 170141183460469231731687303715884105728) (between 170141183460469231731687303715884105728)
    (numbers.from_one 170141183460469231731687303715884105728 (omega arith) (omega arith)))
    negative_onto negative_into

positive_reads : Reads no_digit (made positive (up_to 170141183460469231731687303715884105727)) literal_tail IsPositive
positive_reads =
    made_reads no_digit positive (up_to 170141183460469231731687303715884105727) decimal literal_tail (λ n. at_most 170141183460469231731687303715884105727 n ≡ true) IsPositive
    (number_reads (at_most 170141183460469231731687303715884105727) (at_most 170141183460469231731687303715884105727)
    (numbers.up_to 170141183460469231731687303715884105727 (omega arith)))
    positive_onto (λ n h. (grind (arith, nat_tests), refl))

int_side : (l : Lit) → IsInt l → (IsNegative l × (literal_tail l ≡ 45 ∷ amount_text l)) ⊎ (IsPositive l × (literal_tail l ≡ literal_tail l))
int_side (lit.Int (pos n)) h = inr (grind (arith, nat_tests), refl)
int_side (lit.Int (negsuc n)) h =
    let parts = and_parts (nat_le n 170141183460469231731687303715884105727) true h in
    let low : n ≤ 170141183460469231731687303715884105727 = grind (arith, nat_tests) in inl (omega arith, refl)
int_side (lit.Char c) h = absurd h

int_left : (l : Lit) → IsNegative l → IsInt l × (literal_tail l ≡ 45 ∷ amount_text l)
int_left (lit.Int (pos n)) h = absurd h
int_left (lit.Int (negsuc n)) h = (and_from (nat_le n 170141183460469231731687303715884105727) true (grind (arith, nat_tests)) refl, refl)
int_left (lit.Char c) h = absurd h

int_right : (l : Lit) → IsPositive l → IsInt l × (literal_tail l ≡ literal_tail l)
int_right (lit.Int (pos n)) h = (grind (arith, nat_tests), refl)
int_right (lit.Int (negsuc n)) h = absurd h
int_right (lit.Char c) h = absurd h

int_apart : (l : Lit) (rest : List ℕ) → IsPositive l → NotFirst 45 (literal_tail l ++ rest)
int_apart (lit.Int (pos n)) rest h = no_minus (decimal n ++ rest) (decimal_first n (omega arith) rest)
int_apart (lit.Int (negsuc n)) rest h = absurd h
int_apart (lit.Char c) rest h = absurd h

pub integer_reads : Reads no_digit integer_at literal_tail IsInt
integer_reads =
    either_reads no_digit 45 (made negative (from_one 170141183460469231731687303715884105728)) (made positive (up_to 170141183460469231731687303715884105727))
    amount_text literal_tail literal_tail IsNegative IsPositive IsInt negative_reads positive_reads
    (record { side = int_side; left = int_left; right = int_right; apart = int_apart })

char_onto : (l : Lit) → IsChar l → (n : ℕ) × (scalar n ≡ true) × (lit.Char n ≡ l)
char_onto (lit.Int n) h = absurd h
char_onto (lit.Char c) h = (c, h, refl)

pub character_reads : Reads no_digit character_at literal_tail IsChar
character_reads =
    made_reads no_digit lit.Char (digits_at leads_scalar scalar None) decimal literal_tail (λ n. scalar n ≡ true) IsChar
    (number_reads leads_scalar scalar scalar_range) char_onto (λ n h. (h, refl))

-- ---- heads

abbrev head_tag : Head → ℕ
head_tag (head.Fun f) = 102
head_tag (head.Con c) = 99
head_tag (head.Set f) = 115

abbrev head_tail : Head → List ℕ
head_tail (head.Fun f) = decimal f.0
head_tail (head.Con c) = decimal c.0
head_tail (head.Set f) = decimal f.0

function_onto : (h : Head) → IsTagged head_tag HeadInRange 102 h → (n : ℕ) × FitsIn64 n × (function_head n ≡ h)
function_onto (head.Fun f) g = (f.0, g.0, refl)
function_onto (head.Con c) g = let never : ⊥ = omega (arith, g.1) in absurd never
function_onto (head.Set f) g = let never : ⊥ = omega (arith, g.1) in absurd never

constructor_onto : (h : Head) → IsTagged head_tag HeadInRange 99 h → (n : ℕ) × FitsIn64 n × (constructor_head n ≡ h)
constructor_onto (head.Con c) g = (c.0, g.0, refl)
constructor_onto (head.Fun f) g = let never : ⊥ = omega (arith, g.1) in absurd never
constructor_onto (head.Set f) g = let never : ⊥ = omega (arith, g.1) in absurd never

set_onto : (h : Head) → IsTagged head_tag HeadInRange 115 h → (n : ℕ) × FitsIn64 n × (set_head n ≡ h)
set_onto (head.Set f) g = (f.0, g.0, refl)
set_onto (head.Fun f) g = let never : ⊥ = omega (arith, g.1) in absurd never
set_onto (head.Con c) g = let never : ⊥ = omega (arith, g.1) in absurd never

no_head : (b : ℕ) → nat_eq b 102 ≡ false → nat_eq b 99 ≡ false → nat_eq b 115 ≡ false → (h : Head) → HeadInRange h → head_tag h ≡ b → ⊥
no_head b x y z (head.Fun f) g e = let t = eq-eqb b 102 (sym e) in cc
no_head b x y z (head.Con c) g e = let t = eq-eqb b 99 (sym e) in cc
no_head b x y z (head.Set f) g e = let t = eq-eqb b 115 (sym e) in cc

head_entries : (b : ℕ) → Entry no_digit head_tag head_tail HeadInRange b (head_table b)
head_entries b =
    entry_if no_digit head_tag head_tail HeadInRange b 102 (made function_head index_at) (cond (nat_eq b 99) (Some (made constructor_head index_at)) (cond (nat_eq b 115) (Some (made set_head index_at)) None))
    (made_reads no_digit function_head index_at decimal head_tail FitsIn64 (IsTagged head_tag HeadInRange 102) index_reads function_onto (λ n g. ((g, refl), refl)))
    (λ x.
    entry_if no_digit head_tag head_tail HeadInRange b 99 (made constructor_head index_at) (cond (nat_eq b 115) (Some (made set_head index_at)) None)
    (made_reads no_digit constructor_head index_at decimal head_tail FitsIn64 (IsTagged head_tag HeadInRange 99) index_reads constructor_onto (λ n g. ((g, refl), refl)))
    (λ y.
    entry_if no_digit head_tag head_tail HeadInRange b 115 (made set_head index_at) None
    (made_reads no_digit set_head index_at decimal head_tail FitsIn64 (IsTagged head_tag HeadInRange 115) index_reads set_onto (λ n g. ((g, refl), refl)))
    (λ z. no_head b x y z)))

head_is : (h : Head) → head_text h ≡ tagged_text head_tag head_tail h
head_is (head.Fun f) = refl
head_is (head.Con c) = refl
head_is (head.Set f) = refl

pub head_reads : Reads no_digit head_at head_text HeadInRange
head_reads =
    same_reads no_digit head_at (tagged_text head_tag head_tail) head_text HeadInRange HeadInRange
    (choose_reads no_digit head_table head_tag head_tail HeadInRange (function_head 0) (omega arith) head_entries)
    (λ h g. (g, head_is h)) (λ h g. g)

-- ---- cells

abbrev pub CellInRange : Cell → Type 0
CellInRange cell.Bottom = Unit {0}
CellInRange (cell.LVar x) = FitsIn32 x
CellInRange (cell.Lit l) = IsTrue (is_literal l)
CellInRange (cell.Con c n) = FitsIn64 c.0 × FitsIn32 n
CellInRange (cell.Part h n) = HeadInRange h × FitsIn32 n

abbrev pub literal_tag : Lit → ℕ
literal_tag (lit.Int n) = 105
literal_tag (lit.Char c) = 104

abbrev cell_tag : Cell → ℕ
cell_tag cell.Bottom = 95
cell_tag (cell.LVar x) = 118
cell_tag (cell.Lit l) = literal_tag l
cell_tag (cell.Con c n) = 107
cell_tag (cell.Part h n) = 112

abbrev cell_tail : Cell → List ℕ
cell_tail cell.Bottom = []
cell_tail (cell.LVar x) = decimal x
cell_tail (cell.Lit l) = literal_tail l
cell_tail (cell.Con c n) = decimal c.0 ++ count_text n
cell_tail (cell.Part h n) = head_text h ++ count_text n

-- no number goes on with the bytes of this word
slash_ends : (rest : List ℕ) → Ends no_digit (codes "/" ++ rest)
slash_ends rest = refl

pub small_count_reads : Reads no_digit small_count count_text FitsIn32
small_count_reads = after_reads no_digit (codes "/") small_at decimal FitsIn32 small_reads

constructed_reads : Reads no_digit (pair index_at (λ c. small_count)) (pair_text decimal (λ c. count_text)) (PairGood FitsIn64 (λ c. FitsIn32))
constructed_reads =
    pair_reads no_digit no_digit index_at (λ c. small_count) decimal (λ c. count_text) FitsIn64 (λ c. FitsIn32) index_reads (λ c g. small_count_reads)
    (λ c n rest g h e. slash_ends (decimal n ++ rest))

partial_reads : Reads no_digit (pair head_at (λ h. small_count)) (pair_text head_text (λ h. count_text)) (PairGood HeadInRange (λ h. FitsIn32))
partial_reads =
    pair_reads no_digit no_digit head_at (λ h. small_count) head_text (λ h. count_text) HeadInRange (λ h. FitsIn32) head_reads (λ h g. small_count_reads)
    (λ h n rest g i e. slash_ends (decimal n ++ rest))

abbrev CellTagged : ℕ → Cell → Type 0
CellTagged = IsTagged cell_tag CellInRange

bottom_as : (c : Cell) → CellTagged 95 c → (c ≡ cell.Bottom) × (cell_tail c ≡ [])
bottom_as cell.Bottom g = (refl, refl)
bottom_as (cell.LVar x) g = let never : ⊥ = omega (arith, g.1) in absurd never
bottom_as (cell.Lit (lit.Int n)) g = let never : ⊥ = omega (arith, g.1) in absurd never
bottom_as (cell.Lit (lit.Char n)) g = let never : ⊥ = omega (arith, g.1) in absurd never
bottom_as (cell.Con c n) g = let never : ⊥ = omega (arith, g.1) in absurd never
bottom_as (cell.Part h n) g = let never : ⊥ = omega (arith, g.1) in absurd never

bottom_back : (c : Cell) → c ≡ cell.Bottom → CellTagged 95 c
bottom_back c e = subst (CellTagged 95) (sym e) (tt, refl)

variable_onto : (c : Cell) → CellTagged 118 c → (x : ℕ) × FitsIn32 x × (cell.LVar x ≡ c)
variable_onto (cell.LVar x) g = (x, g.0, refl)
variable_onto cell.Bottom g = let never : ⊥ = omega (arith, g.1) in absurd never
variable_onto (cell.Lit (lit.Int n)) g = let never : ⊥ = omega (arith, g.1) in absurd never
variable_onto (cell.Lit (lit.Char n)) g = let never : ⊥ = omega (arith, g.1) in absurd never
variable_onto (cell.Con c n) g = let never : ⊥ = omega (arith, g.1) in absurd never
variable_onto (cell.Part h n) g = let never : ⊥ = omega (arith, g.1) in absurd never

int_cell_onto : (c : Cell) → CellTagged 105 c → (l : Lit) × IsInt l × (cell.Lit l ≡ c)
int_cell_onto (cell.Lit (lit.Int n)) g = (lit.Int n, g.0, refl)
int_cell_onto (cell.Lit (lit.Char n)) g = let never : ⊥ = omega (arith, g.1) in absurd never
int_cell_onto (cell.LVar x) g = let never : ⊥ = omega (arith, g.1) in absurd never
int_cell_onto cell.Bottom g = let never : ⊥ = omega (arith, g.1) in absurd never
int_cell_onto (cell.Con c n) g = let never : ⊥ = omega (arith, g.1) in absurd never
int_cell_onto (cell.Part h n) g = let never : ⊥ = omega (arith, g.1) in absurd never

int_cell_into : (l : Lit) → IsInt l → CellTagged 105 (cell.Lit l) × (cell_tail (cell.Lit l) ≡ literal_tail l)
int_cell_into (lit.Int n) h = ((h, refl), refl)
int_cell_into (lit.Char c) h = absurd h

char_cell_onto : (c : Cell) → CellTagged 104 c → (l : Lit) × IsChar l × (cell.Lit l ≡ c)
char_cell_onto (cell.Lit (lit.Char n)) g = (lit.Char n, g.0, refl)
char_cell_onto (cell.Lit (lit.Int n)) g = let never : ⊥ = omega (arith, g.1) in absurd never
char_cell_onto (cell.LVar x) g = let never : ⊥ = omega (arith, g.1) in absurd never
char_cell_onto cell.Bottom g = let never : ⊥ = omega (arith, g.1) in absurd never
char_cell_onto (cell.Con c n) g = let never : ⊥ = omega (arith, g.1) in absurd never
char_cell_onto (cell.Part h n) g = let never : ⊥ = omega (arith, g.1) in absurd never

char_cell_into : (l : Lit) → IsChar l → CellTagged 104 (cell.Lit l) × (cell_tail (cell.Lit l) ≡ literal_tail l)
char_cell_into (lit.Char c) h = ((h, refl), refl)
char_cell_into (lit.Int n) h = absurd h

constructed_onto : (c : Cell) → CellTagged 107 c → (p : ℕ × ℕ) × PairGood FitsIn64 (λ c. FitsIn32) p × (constructed_cell p ≡ c)
constructed_onto (cell.Con c n) g = ((c.0, n), g.0, refl)
constructed_onto cell.Bottom g = let never : ⊥ = omega (arith, g.1) in absurd never
constructed_onto (cell.LVar x) g = let never : ⊥ = omega (arith, g.1) in absurd never
constructed_onto (cell.Lit (lit.Int n)) g = let never : ⊥ = omega (arith, g.1) in absurd never
constructed_onto (cell.Lit (lit.Char n)) g = let never : ⊥ = omega (arith, g.1) in absurd never
constructed_onto (cell.Part h n) g = let never : ⊥ = omega (arith, g.1) in absurd never

partial_onto : (c : Cell) → CellTagged 112 c → (p : Head × ℕ) × PairGood HeadInRange (λ h. FitsIn32) p × (partial_cell p ≡ c)
partial_onto (cell.Part h n) g = ((h, n), g.0, refl)
partial_onto cell.Bottom g = let never : ⊥ = omega (arith, g.1) in absurd never
partial_onto (cell.LVar x) g = let never : ⊥ = omega (arith, g.1) in absurd never
partial_onto (cell.Lit (lit.Int n)) g = let never : ⊥ = omega (arith, g.1) in absurd never
partial_onto (cell.Lit (lit.Char n)) g = let never : ⊥ = omega (arith, g.1) in absurd never
partial_onto (cell.Con c n) g = let never : ⊥ = omega (arith, g.1) in absurd never

no_cell : (b : ℕ) → nat_eq b 95 ≡ false → nat_eq b 118 ≡ false → nat_eq b 105 ≡ false → nat_eq b 104 ≡ false → nat_eq b 107 ≡ false → nat_eq b 112 ≡ false
    → (c : Cell) → CellInRange c → cell_tag c ≡ b → ⊥
no_cell b u v w x y z cell.Bottom g e = let t = eq-eqb b 95 (sym e) in cc
no_cell b u v w x y z (cell.LVar n) g e = let t = eq-eqb b 118 (sym e) in cc
no_cell b u v w x y z (cell.Lit (lit.Int n)) g e = let t = eq-eqb b 105 (sym e) in cc
no_cell b u v w x y z (cell.Lit (lit.Char n)) g e = let t = eq-eqb b 104 (sym e) in cc
no_cell b u v w x y z (cell.Con c n) g e = let t = eq-eqb b 107 (sym e) in cc
no_cell b u v w x y z (cell.Part h n) g e = let t = eq-eqb b 112 (sym e) in cc

abbrev cells_from_112 : ℕ → Option (Reader Cell)
cells_from_112 b = cond (nat_eq b 112) (Some (made partial_cell (pair head_at (λ h. small_count)))) None

abbrev cells_from_107 : ℕ → Option (Reader Cell)
cells_from_107 b = cond (nat_eq b 107) (Some (made constructed_cell (pair index_at (λ c. small_count)))) (cells_from_112 b)

abbrev cells_from_104 : ℕ → Option (Reader Cell)
cells_from_104 b = cond (nat_eq b 104) (Some (made cell.Lit character_at)) (cells_from_107 b)

abbrev cells_from_105 : ℕ → Option (Reader Cell)
cells_from_105 b = cond (nat_eq b 105) (Some (made cell.Lit integer_at)) (cells_from_104 b)

abbrev cells_from_118 : ℕ → Option (Reader Cell)
cells_from_118 b = cond (nat_eq b 118) (Some (made cell.LVar small_at)) (cells_from_105 b)

cell_entries : (b : ℕ) → Entry no_digit cell_tag cell_tail CellInRange b (cell_table b)
cell_entries b =
    entry_if no_digit cell_tag cell_tail CellInRange b 95 (nothing cell.Bottom) (cells_from_118 b)
    (same_reads no_digit (nothing cell.Bottom) (λ c. []) cell_tail (λ c. c ≡ cell.Bottom) (CellTagged 95) (nothing_reads no_digit cell.Bottom) bottom_as bottom_back)
    (λ u.
    entry_if no_digit cell_tag cell_tail CellInRange b 118 (made cell.LVar small_at) (cells_from_105 b)
    (made_reads no_digit cell.LVar small_at decimal cell_tail FitsIn32 (CellTagged 118) small_reads variable_onto (λ x g. ((g, refl), refl)))
    (λ v.
    entry_if no_digit cell_tag cell_tail CellInRange b 105 (made cell.Lit integer_at) (cells_from_104 b)
    (made_reads no_digit cell.Lit integer_at literal_tail cell_tail IsInt (CellTagged 105) integer_reads int_cell_onto int_cell_into)
    (λ w.
    entry_if no_digit cell_tag cell_tail CellInRange b 104 (made cell.Lit character_at) (cells_from_107 b)
    (made_reads no_digit cell.Lit character_at literal_tail cell_tail IsChar (CellTagged 104) character_reads char_cell_onto char_cell_into)
    (λ x.
    entry_if no_digit cell_tag cell_tail CellInRange b 107 (made constructed_cell (pair index_at (λ c. small_count))) (cells_from_112 b)
    (made_reads no_digit constructed_cell (pair index_at (λ c. small_count)) (pair_text decimal (λ c. count_text)) cell_tail (PairGood FitsIn64 (λ c. FitsIn32)) (CellTagged 107)
    constructed_reads constructed_onto (λ p g. ((g, refl), refl)))
    (λ y.
    entry_if no_digit cell_tag cell_tail CellInRange b 112 (made partial_cell (pair head_at (λ h. small_count))) None
    (made_reads no_digit partial_cell (pair head_at (λ h. small_count)) (pair_text head_text (λ h. count_text)) cell_tail (PairGood HeadInRange (λ h. FitsIn32)) (CellTagged 112)
    partial_reads partial_onto (λ p g. ((g, refl), refl)))
    (λ z. no_cell b u v w x y z))))))

cell_is : (c : Cell) → cell_text c ≡ tagged_text cell_tag cell_tail c
cell_is cell.Bottom = refl
cell_is (cell.LVar x) = refl
cell_is (cell.Lit (lit.Int (pos n))) = refl
cell_is (cell.Lit (lit.Int (negsuc n))) = refl
cell_is (cell.Lit (lit.Char c)) = refl
cell_is (cell.Con c n) = refl
cell_is (cell.Part h n) = refl

pub cell_reads : Reads no_digit cell_at cell_text CellInRange
cell_reads =
    same_reads no_digit cell_at (tagged_text cell_tag cell_tail) cell_text CellInRange CellInRange
    (choose_reads no_digit cell_table cell_tag cell_tail CellInRange cell.Bottom tt cell_entries)
    (λ c g. (g, cell_is c)) (λ c g. g)
