-- What is said of the readers of names, entities, numbers, literals, kinds and patterns.
use Rattle.std.proofs.Common.{◌≡◌, ℕ, zero, suc, ◌+◌, ◌-◌, ◌*◌, ◌≤◌, ◌<◌, ◌^◌, Bool, true, false, List, [], ◌∷◌, ◌++◌, All, Contains, IsTrue, Ok, Err, codes, decimal, if◌then◌else◌, length, nat_eq, nat_le, nat_lt, pos, negsuc, refl, sym, ap, subst, ◌∙◌, ◌⊎◌, inl, inr, arith, append_assoc, append-nil, eqb-true, eq-eqb, le-leb, leb-true}
use Rattle.std.specs.Char.{IsScalar}
use Rattle.std.specs.Fmt.{signed_decimal}
use Rattle.std.specs.List.{AllByRecursion}
use Rattle.std.proofs.lemmas.Bool.{cases_lt}
use Rattle.std.proofs.lemmas.Bool.Decides.{nat_tests}
use Rattle.std.proofs.lemmas.List.Elements.{All-from_recursion, recursion_from_All}
use lib.Utf8.{low_scalar, scalar, scalar_cases}
use Rattle.std.proofs.str.Digits.{high_scalar}
use Rattle.cu_calculus.specs.declared.Lit.{Lit}
use Rattle.cu_calculus.specs.declared.Lit.TheVariants as lit
use Rattle.cu_int.specs.Integers.{is_integer, is_negative}
use Rattle.cu_flatread.proofs.BranchLaws.{either_reads}
use Rattle.cu_flatread.proofs.DecimalLemmas.{and_true, given, given_is, next_digit, true_and}
use Rattle.cu_flatread.proofs.ElementLaws.{list_reads}
use Rattle.cu_flatread.proofs.NumberLaws.{Positive, decimal_first, decimal_reads, positive_reads}
use Rattle.cu_flatread.proofs.ReaderLaws.{Done, Ends, Fits, Part, Reader, Reads, Steps, Stopped, Took, Word, always, bind_at, bind_err, bind_fails, bind_ok, ends_always, no_digit, part_reads, run, same_reads, steps_read, text_by, word_reads}
use Rattle.cu_flatread.proofs.TableLaws.{Finds, IsRow, table_reads}
use Rattle.cu_flatread.proofs.TextLaws.{IsText, Plain, text_reads, to_quote}
use Rattle.cu_flatread.specs.FlatText.{IsEntity, IsKind, IsLiteral, IsName, IsNumber, IsPattern}
use Rattle.cu_flatread.specs.Inside.Expressions.{kind_at, kind_of_form, kind_words, missing_at, pattern_at, pattern_of_form, pattern_words}
use Rattle.cu_flatread.specs.Inside.Names.{entity_at, quoted_at, text_at}
use Rattle.cu_flatread.specs.Inside.Numbers.{character_at, decimal_at, integer_at, level_at, literal_at, literal_in, literal_words, most_number, negative_at, number_at, numbers_at, positive_at}
use Rattle.cu_flatread.specs.Inside.Words.{◌>>=◌, after_word, is_at, one_of}
use Rattle.cu_flatread.specs.Modules as m
use Rattle.cu_flatread.specs.Modules.{Pattern}
use Rattle.cu_flatread.specs.Notation.{Entity, entity_text, in_parentheses, quoted}
use Rattle.cu_flatread.specs.Text.{kind_text, literal_text, numbers_text, pattern_text}
use Rattle.cu_flatread.specs.declared.cells.CombKind.{CombKind}
use Rattle.cu_flatread.specs.declared.cells.CombKind.TheVariants as of
use Rattle.cu_flatread.specs.declared.expressions.KindForm.{KindForm}
use Rattle.cu_flatread.specs.declared.expressions.KindForm.TheVariants as kind
use Rattle.cu_flatread.specs.declared.expressions.PatternForm.{PatternForm}
use Rattle.cu_flatread.specs.declared.expressions.PatternForm.TheVariants as pattern
use Rattle.cu_flatread.specs.declared.numbers.LiteralForm.{LiteralForm}
use Rattle.cu_flatread.specs.declared.numbers.LiteralForm.TheVariants as form
use Rattle.cu_flatread.specs.declared.quoted.Within.TheVariants as within

-- ---- what has a word and then what the word says

-- A reader of a word of a table, and of what stands after it. What is read has one word.
module _ {X B : Type 0} (words : List (List ℕ × X)) (w : X → List ℕ) (In : X → Type 0) (some : X)
    (is_some : In some) (rows : AllByRecursion (IsRow w In) words)
    (finds : (x : X) → In x → Finds w words x) (s : X → Reader B) (u : X → B → List ℕ)
    (H : X → B → Type 0) (tag : B → X)
    (second : (x : X) → In x → Reads no_digit (s x) (u x) (H x))
    (exact : (x : X) (y : B) → In x → H x y → tag y ≡ x) where
  pub tag_reads : Reads no_digit (λ bytes. one_of words bytes >>= λ p. s p.0 p.1)
      (λ y. w (tag y) ++ u (tag y) y) (λ y. In (tag y) × H (tag y) y)
  tag_reads =
      part_reads always no_digit (one_of words) s w u In H tag
      (table_reads w In words some is_some rows finds) second exact
      (λ x y rest g h ends. ends_always (u x y ++ rest))

-- ---- names

plain_from : (text : List ℕ) → (Contains text 34 → ⊥) → Plain text
plain_from [] none = tt
plain_from (b ∷ text) none = (by (nat_eq b 34) refl, plain_from text later)
  where
    by : (t : Bool) → nat_eq b 34 ≡ t → nat_eq b 34 ≡ false
    by false h = h
    by true h = absurd (none (0, omega arith, eqb-true b 34 h))

    later : Contains text 34 → ⊥
    later c = none (suc c.0, omega (arith, c.1), c.2)

no_quote : (text : List ℕ) → Plain text → Contains text 34 → ⊥
no_quote [] plain c = omega (arith, c.1)
no_quote (b ∷ text) plain (zero, below, is) =
    let same = eq-eqb b 34 is in
    let other = plain.0 in
    let never : ⊥ = cc in never
no_quote (b ∷ text) plain (suc k, below, is) =
    no_quote text plain.1 (k, omega (arith, below), is)

pub quoted_reads : Reads always quoted_at quoted IsName
unfolding quoted_at
quoted_reads =
    same_reads always quoted_at quoted quoted IsText IsName
    (word_reads always (codes "\"") (text_at within.Between) to_quote IsText text_reads)
    (λ text g. ((g.0, plain_from text g.1), refl))
    (λ text g. ((g.0, no_quote text g.1), refl))

abbrev pub make_entity : List ℕ → List ℕ → Entity
make_entity owner name = record { owner = owner; name = name }

abbrev pub no_entity : Entity
no_entity = make_entity [] []

abbrev entity_steps : Steps Entity
entity_steps =
    Word (codes "(")
    (Part (List ℕ) always quoted_at quoted IsName (λ e. e.owner)
    (λ owner. Word (codes ",")
    (Part (List ℕ) always quoted_at quoted IsName (λ e. e.name)
    (λ name. Word (codes ")") (Done (make_entity owner name))))))

pub entity_reads : Reads no_digit entity_at entity_text IsEntity
unfolding entity_at
entity_reads =
    same_reads no_digit entity_at (text_by entity_steps) entity_text (Fits entity_steps) IsEntity
    (steps_read entity_steps (
      quoted_reads,
      λ owner g. (
        quoted_reads,
        λ name h. tt,
        λ name e h f. ap (λ (x : Entity). x.name) f,
        inl (λ b. refl),
      ),
      λ owner e g f. ap (λ (x : Entity). x.owner) f.1,
      inl (λ b. refl),
    ))
    (λ e g. ((g.0, (g.1, refl)), refl)) (λ e g. ((g.0, g.1.0), refl))

-- ---- numbers

pub number_reads : Reads no_digit number_at decimal IsNumber
number_reads =
    same_reads no_digit number_at decimal decimal (λ n. n ≤ most_number) IsNumber
    (decimal_reads most_number (omega arith) (omega arith))
    (λ n g. (omega (arith, g), refl)) (λ n g. (omega (arith, g), refl))

abbrev pub IsLevel : ℕ → Type 0
IsLevel n = n < 2 ^ 32

pub level_reads : Reads no_digit level_at decimal IsLevel
level_reads =
    same_reads no_digit level_at decimal decimal (λ n. n ≤ 2 ^ 32 - 1) IsLevel
    (decimal_reads (2 ^ 32 - 1) (omega arith) (omega arith))
    (λ n g. (omega (arith, g), refl)) (λ n g. (omega (arith, g), refl))

number_starts : (n : ℕ) (rest : List ℕ) → IsNumber n → is_at 93 (decimal n ++ rest) ≡ false
number_starts n rest g =
    decimal_first most_number n rest 93 (omega arith) (omega (arith, g)) refl refl

pub numbers_reads : Reads no_digit numbers_at numbers_text (All IsNumber)
numbers_reads =
    same_reads no_digit numbers_at numbers_text numbers_text (AllByRecursion IsNumber)
    (All IsNumber) (list_reads number_at decimal IsNumber number_reads number_starts)
    (λ xs g. (recursion_from_All IsNumber xs g, refl))
    (λ xs g. (All-from_recursion IsNumber xs g, refl))

-- ---- integers

abbrev int_text : Lit → List ℕ
int_text (lit.Int n) =
    if is_negative n then in_parentheses (signed_decimal n) else signed_decimal n
int_text (lit.Char c) = []

abbrev IsNegative : Lit → Type 0
IsNegative (lit.Int (pos n)) = ⊥
IsNegative (lit.Int (negsuc n)) = suc n ≤ 2 ^ 127
IsNegative (lit.Char c) = ⊥

abbrev IsPositive : Lit → Type 0
IsPositive (lit.Int (pos n)) = n ≤ 2 ^ 127 - 1
IsPositive (lit.Int (negsuc n)) = ⊥
IsPositive (lit.Char c) = ⊥

abbrev size_of : Lit → ℕ
size_of (lit.Int (pos n)) = n
size_of (lit.Int (negsuc n)) = suc n
size_of (lit.Char c) = c

abbrev negative : ℕ → Lit
negative n = lit.Int (negsuc (n - 1))

abbrev negative_steps : Steps Lit
negative_steps =
    Part ℕ no_digit (positive_at (2 ^ 127)) decimal (Positive (2 ^ 127)) size_of
    (λ n. Word (codes ")") (Done (negative n)))

negative_size : (n : ℕ) (l : Lit) → Positive (2 ^ 127) n → l ≡ negative n → size_of l ≡ n
negative_size n l g e =
    let back : suc (n - 1) ≡ n = omega (arith, g.0) in ap size_of e ∙ back

negative_from : (l : Lit) → IsNegative l
    → Fits negative_steps l × (int_text l ≡ codes "(-" ++ text_by negative_steps l)
negative_from (lit.Int (pos n)) g = absurd g
negative_from (lit.Char c) g = absurd g
negative_from (lit.Int (negsuc n)) g =
    let back : n ≡ suc n - 1 = omega arith in
    (((omega arith, g), ap (λ (k : ℕ). lit.Int (negsuc k)) back), refl)

negative_into : (l : Lit) → Fits negative_steps l
    → IsNegative l × (int_text l ≡ codes "(-" ++ text_by negative_steps l)
negative_into (lit.Int (pos n)) g = let is = g.1 in let never : ⊥ = cc in absurd never
negative_into (lit.Char c) g = let is = g.1 in let never : ⊥ = cc in absurd never
negative_into (lit.Int (negsuc n)) g = (g.0.1, refl)

abbrev signed_at : Reader Lit
signed_at bytes = after_word (codes "(-") bytes >>= negative_at

signed_reads : Reads no_digit signed_at int_text IsNegative
unfolding negative_at
signed_reads =
    same_reads no_digit signed_at (λ l. codes "(-" ++ text_by negative_steps l) int_text
    (Fits negative_steps) IsNegative
    (word_reads no_digit (codes "(-") negative_at (text_by negative_steps) (Fits negative_steps)
    (steps_read negative_steps (
      positive_reads (2 ^ 127) (omega arith) (omega arith),
      λ n g. tt,
      negative_size,
      inr (λ n l rest g h ends. refl),
    )))
    negative_from negative_into

abbrev positive : ℕ → Lit
positive n = lit.Int (pos n)

positive_text : (n : ℕ) → int_text (positive n) ≡ decimal n
positive_text n =
    let f : nat_lt n 0 ≡ false = grind (arith, nat_tests) in
    ap (λ (t : Bool). if t then in_parentheses (decimal n) else decimal n) f

abbrev positive_steps : Steps Lit
positive_steps =
    Part ℕ no_digit (decimal_at (2 ^ 127 - 1)) decimal (λ n. n ≤ 2 ^ 127 - 1) size_of
    (λ n. Done (positive n))

positive_from : (l : Lit) → IsPositive l
    → Fits positive_steps l × (int_text l ≡ text_by positive_steps l)
positive_from (lit.Int (negsuc n)) g = absurd g
positive_from (lit.Char c) g = absurd g
positive_from (lit.Int (pos n)) g =
    ((g, refl), positive_text n ∙ sym (append-nil (decimal n)))

positive_into : (l : Lit) → Fits positive_steps l
    → IsPositive l × (int_text l ≡ text_by positive_steps l)
positive_into (lit.Int (negsuc n)) g = let is = g.1 in let never : ⊥ = cc in absurd never
positive_into (lit.Char c) g = let is = g.1 in let never : ⊥ = cc in absurd never
positive_into (lit.Int (pos n)) g = (g.0, positive_text n ∙ sym (append-nil (decimal n)))

abbrev plain_at : Reader Lit
plain_at bytes = decimal_at (2 ^ 127 - 1) bytes >>= λ n. Ok (lit.Int (pos n.0), n.1)

plain_reads : Reads no_digit plain_at int_text IsPositive
plain_reads =
    same_reads no_digit plain_at (text_by positive_steps) int_text (Fits positive_steps) IsPositive
    (steps_read positive_steps (
      decimal_reads (2 ^ 127 - 1) (omega arith) (omega arith),
      λ n g. tt,
      λ n l g e. ap size_of e,
      inr (λ n l rest g h ends. ends),
    ))
    positive_from positive_into

negative_first : (l : Lit) (rest : List ℕ) → IsNegative l → is_at 40 (int_text l ++ rest) ≡ true
negative_first (lit.Int (pos n)) rest g = absurd g
negative_first (lit.Char c) rest g = absurd g
negative_first (lit.Int (negsuc n)) rest g = refl

positive_other : (l : Lit) (rest : List ℕ) → IsPositive l → is_at 40 (int_text l ++ rest) ≡ false
positive_other (lit.Int (negsuc n)) rest g = absurd g
positive_other (lit.Char c) rest g = absurd g
positive_other (lit.Int (pos n)) rest g =
    ap (λ z. is_at 40 (z ++ rest)) (positive_text n)
    ∙ decimal_first (2 ^ 127 - 1) n rest 40 (omega arith) g refl refl

abbrev IsInt : Lit → Type 0
IsInt (lit.Int n) = IsTrue (is_integer n)
IsInt (lit.Char c) = ⊥

int_side : (l : Lit) → IsInt l → IsNegative l ⊎ IsPositive l
int_side (lit.Int (pos n)) g = inr (leb-true n (2 ^ 127 - 1) g)
int_side (lit.Int (negsuc n)) g =
    inl (omega (arith, leb-true n (2 ^ 127 - 1) (and_true (nat_le n (2 ^ 127 - 1)) true g).0))
int_side (lit.Char c) g = absurd g

int_of_side : (l : Lit) → IsNegative l ⊎ IsPositive l → IsInt l
int_of_side (lit.Int (pos n)) (inl g) = absurd g
int_of_side (lit.Int (pos n)) (inr g) = le-leb n (2 ^ 127 - 1) g
int_of_side (lit.Int (negsuc n)) (inl g) =
    true_and (nat_le n (2 ^ 127 - 1)) true (le-leb n (2 ^ 127 - 1) (omega (arith, g))) refl
int_of_side (lit.Int (negsuc n)) (inr g) = absurd g
int_of_side (lit.Char c) (inl g) = absurd g
int_of_side (lit.Char c) (inr g) = absurd g

integer_reads : Reads no_digit integer_at int_text IsInt
unfolding integer_at
integer_reads =
    same_reads no_digit integer_at int_text int_text (λ l. IsNegative l ⊎ IsPositive l) IsInt
    (either_reads no_digit 40 signed_at plain_at int_text IsNegative IsPositive signed_reads
    plain_reads negative_first positive_other)
    (λ l g. (int_side l g, refl)) (λ l g. (int_of_side l g, refl))

-- ---- characters

abbrev char_text : Lit → List ℕ
char_text (lit.Int n) = []
char_text (lit.Char c) = decimal c

abbrev IsChar : Lit → Type 0
IsChar (lit.Int n) = ⊥
IsChar (lit.Char c) = IsScalar c

abbrev char_end : ℕ → Reader Lit
char_end n bytes = if scalar n then given (lit.Char n) bytes else Err (length bytes)

char_end_is : (n : ℕ) (bytes : List ℕ) (t : Bool) → scalar n ≡ t
    → char_end n bytes ≡ (if t then given (lit.Char n) bytes else Err (length bytes))
char_end_is n bytes t h =
    ap (λ (x : Bool). if x then given (lit.Char n) bytes else Err (length bytes)) h

most_scalar : (c : ℕ) → IsScalar c → c ≤ 0x10FFFF
most_scalar c is = elim (scalar_cases c is) [
  | inl low ↦ omega (arith, low)
  | inr high ↦ omega (arith, high.1)
]

scalar_number : Reads no_digit (decimal_at 0x10FFFF) decimal (λ n. n ≤ 0x10FFFF)
scalar_number = decimal_reads 0x10FFFF (omega arith) (omega arith)

char_again : (l : Lit) (rest : List ℕ) → IsChar l → Ends no_digit rest
    → character_at (char_text l ++ rest) ≡ given l rest
unfolding character_at
char_again (lit.Int n) rest g ends = absurd g
char_again (lit.Char c) rest g ends =
    bind_at (decimal_at 0x10FFFF (decimal c ++ rest)) (λ n. char_end n.0 n.1) (c, rest)
    (scalar_number.again c rest (most_scalar c g) ends)
    ∙ char_end_is c rest true g

char_takes_at : (t : Bool) (bytes : List ℕ) (n : ℕ) (r : List ℕ) (l : Lit) (rest : List ℕ)
    → scalar n ≡ t → Took (decimal_at 0x10FFFF) decimal (λ n. n ≤ 0x10FFFF) bytes n r
    → (if t then given (lit.Char n) r else Err (length r)) ≡ given l rest
    → Took character_at char_text IsChar bytes l rest
unfolding character_at
char_takes_at false bytes n r l rest is a e = let never : ⊥ = cc in absurd never
char_takes_at true bytes n r l rest is a e =
    let same = given_is (lit.Char n) l r rest e in
    let took : Took character_at char_text IsChar bytes (lit.Char n) r = record {
      splits = a.splits;
      good = is;
      alike = λ b bs others i.
          bind_at (decimal_at 0x10FFFF (decimal n ++ b ∷ others)) (λ n. char_end n.0 n.1)
          (n, b ∷ others) (a.alike b bs others i)
          ∙ char_end_is n (b ∷ others) true is;
    } in
    subst (λ (z : Lit). Took character_at char_text IsChar bytes z rest) same.0
    (subst (λ z. Took character_at char_text IsChar bytes (lit.Char n) z) same.1 took)

char_takes : (bytes : List ℕ) (l : Lit) (rest : List ℕ) → character_at bytes ≡ given l rest
    → Took character_at char_text IsChar bytes l rest
unfolding character_at
char_takes bytes l rest e =
    let one = bind_ok (decimal_at 0x10FFFF bytes) (λ n. char_end n.0 n.1) (l, rest) e in
    char_takes_at (scalar one.0.0) bytes one.0.0 one.0.1 l rest refl
    (scalar_number.takes bytes one.0.0 one.0.1 one.1) one.2

-- a character whose number begins with that of something that is none
record Longer (n : ℕ) : Type 0 where
  char : ℕ
  is : IsScalar char
  more : List ℕ
  text : decimal char ≡ decimal n ++ more

longer_at : (t : Bool) (n : ℕ) → scalar n ≡ t → n ≤ 0x10FFFF → Longer n
longer_at true n h fits =
    record { char = n; is = h; more = []; text = sym (append-nil (decimal n)) }
longer_at false n h fits =
    elim (cases_lt n 55296) [
      | inl low ↦
          let is = low_scalar n low in
          let never : ⊥ = cc in absurd never
      | inr high ↦ elim (cases_lt n 57344) [
        | inl surrogate ↦
            let ten : n * 10 + (48 - 48) ≡ n * 10 = omega arith in
            record {
              char = n * 10;
              is = high_scalar (n * 10) (omega arith) (omega arith) (omega arith);
              more = 48 ∷ [];
              text =
                  ap decimal (sym ten)
                  ∙ next_digit n 48 (omega arith) (omega arith) (omega arith) (omega arith);
            }
        | inr above ↦
            let is = high_scalar n (omega arith) above (omega (arith, fits)) in
            let never : ⊥ = cc in absurd never
      ]
    ]

longer : (n : ℕ) → n ≤ 0x10FFFF → Longer n
longer n fits = longer_at (scalar n) n refl fits

char_stops_end : (t : Bool) (bytes : List ℕ) (n : ℕ) (r : List ℕ) (left : ℕ) → scalar n ≡ t
    → Took (decimal_at 0x10FFFF) decimal (λ n. n ≤ 0x10FFFF) bytes n r
    → (if t then given (lit.Char n) r else Err (length r)) ≡ Err left
    → Stopped character_at char_text IsChar bytes left
unfolding character_at
char_stops_end true bytes n r left h a e = let never : ⊥ = cc in absurd never
char_stops_end false bytes n r left h a e =
    let same : length r ≡ left = cc in
    let c = longer n a.good in
    record {
      front = decimal n;
      back = r;
      splits = a.splits;
      left = same;
      whole = lit.Char c.char;
      good = c.is;
      more = c.more;
      begun = c.text;
      wrong = λ b bs others i.
          bind_at (decimal_at 0x10FFFF (decimal n ++ b ∷ others)) (λ n. char_end n.0 n.1)
          (n, b ∷ others) (a.alike b bs others i)
          ∙ char_end_is n (b ∷ others) false h;
    }

char_stops : (bytes : List ℕ) (left : ℕ) → character_at bytes ≡ Err left
    → Stopped character_at char_text IsChar bytes left
unfolding character_at
char_stops bytes left e =
    elim (bind_err (decimal_at 0x10FFFF bytes) (λ n. char_end n.0 n.1) left e) [
      | inl h ↦
          let st = scalar_number.stops bytes left h in
          let c = longer st.whole st.good in
          record {
            front = st.front;
            back = st.back;
            splits = st.splits;
            left = st.left;
            whole = lit.Char c.char;
            good = c.is;
            more = st.more ++ c.more;
            begun = c.text ∙ ap (λ z. z ++ c.more) st.begun ∙ append_assoc st.front st.more c.more;
            wrong = λ b bs others i.
                bind_fails (decimal_at 0x10FFFF (st.front ++ b ∷ others))
                (λ n. char_end n.0 n.1) (length (b ∷ others)) (st.wrong b bs others i);
          }
      | inr h ↦
          char_stops_end (scalar h.0.0) bytes h.0.0 h.0.1 left refl
          (scalar_number.takes bytes h.0.0 h.0.1 h.1) h.2
    ]

character_reads : Reads no_digit character_at char_text IsChar
character_reads = record {
  again = char_again;
  takes = char_takes;
  stops = char_stops;
  some = lit.Char 97;
  is_some = refl;
}

-- ---- literals

abbrev literal_word : LiteralForm → List ℕ
literal_word form.Integer = codes "Intc "
literal_word form.Char = codes "Charc "

abbrev AnyLiteral : LiteralForm → Type 0
AnyLiteral f = Unit {0}

abbrev literal_form : Lit → LiteralForm
literal_form (lit.Int n) = form.Integer
literal_form (lit.Char c) = form.Char

abbrev literal_tail : LiteralForm → Lit → List ℕ
literal_tail form.Integer l = int_text l
literal_tail form.Char l = char_text l

abbrev LiteralGood : LiteralForm → Lit → Type 0
LiteralGood form.Integer l = IsInt l
LiteralGood form.Char l = IsChar l

literal_finds : (f : LiteralForm) → AnyLiteral f → Finds literal_word literal_words f
literal_finds form.Integer g = inl (refl, refl)
literal_finds form.Char g = inr (refl, inl (refl, refl))

literal_second : (f : LiteralForm) → AnyLiteral f
    → Reads no_digit (literal_in f) (literal_tail f) (LiteralGood f)
literal_second form.Integer g = integer_reads
literal_second form.Char g = character_reads

literal_exact : (f : LiteralForm) (l : Lit) → AnyLiteral f → LiteralGood f l → literal_form l ≡ f
literal_exact form.Integer (lit.Int n) g h = refl
literal_exact form.Integer (lit.Char c) g h = absurd h
literal_exact form.Char (lit.Int n) g h = absurd h
literal_exact form.Char (lit.Char c) g h = refl

literal_from : (l : Lit) → IsLiteral l → (AnyLiteral (literal_form l)
    × LiteralGood (literal_form l) l)
    × (literal_text l ≡ literal_word (literal_form l) ++ literal_tail (literal_form l) l)
literal_from (lit.Int n) g = ((tt, g), refl)
literal_from (lit.Char c) g = ((tt, g), refl)

literal_into : (l : Lit) → AnyLiteral (literal_form l) × LiteralGood (literal_form l) l
    → IsLiteral l
    × (literal_text l ≡ literal_word (literal_form l) ++ literal_tail (literal_form l) l)
literal_into (lit.Int n) g = (g.1, refl)
literal_into (lit.Char c) g = (g.1, refl)

pub literal_reads : Reads no_digit literal_at literal_text IsLiteral
unfolding literal_at
literal_reads =
    same_reads no_digit literal_at
    (λ l. literal_word (literal_form l) ++ literal_tail (literal_form l) l) literal_text
    (λ l. AnyLiteral (literal_form l) × LiteralGood (literal_form l) l) IsLiteral
    (tag_reads literal_words literal_word AnyLiteral form.Char tt
    ((tt, refl), ((tt, refl), tt)) literal_finds literal_in literal_tail LiteralGood literal_form
    literal_second literal_exact)
    literal_from literal_into

-- ---- kinds

abbrev kind_word : KindForm → List ℕ
kind_word kind.Func = codes "FuncCall "
kind_word kind.Cons = codes "ConsCall "
kind_word kind.FuncPart = codes "(FuncPartCall "
kind_word kind.ConsPart = codes "(ConsPartCall "

abbrev AnyKind : KindForm → Type 0
AnyKind f = Unit {0}

abbrev kind_form : CombKind → KindForm
kind_form of.FuncCall = kind.Func
kind_form of.ConsCall = kind.Cons
kind_form (of.FuncPartCall n) = kind.FuncPart
kind_form (of.ConsPartCall n) = kind.ConsPart

abbrev missing_of : CombKind → ℕ
missing_of of.FuncCall = 0
missing_of of.ConsCall = 0
missing_of (of.FuncPartCall n) = n
missing_of (of.ConsPartCall n) = n

abbrev missing_steps : Steps ℕ
missing_steps = Part ℕ no_digit number_at decimal IsNumber (λ n. n) (λ n. Word (codes ") ") (Done n))

abbrev missing_text : ℕ → List ℕ
missing_text n = decimal n ++ codes ") "

missing_reads : Reads no_digit missing_at missing_text IsNumber
unfolding missing_at
missing_reads =
    same_reads no_digit missing_at (text_by missing_steps) missing_text (Fits missing_steps)
    IsNumber
    (steps_read missing_steps (
      number_reads,
      λ n g. tt,
      λ n k g e. e,
      inr (λ n k rest g h ends. refl),
    ))
    (λ n g. ((g, refl), refl)) (λ n g. (g.0, refl))

-- the kind with its number
abbrev part_steps : (ℕ → CombKind) → Steps CombKind
part_steps make =
    Part ℕ no_digit missing_at missing_text IsNumber missing_of (λ n. Done (make n))

part_read : (make : ℕ → CombKind) → ((n : ℕ) → missing_of (make n) ≡ n)
    → Reads no_digit (run (part_steps make)) (text_by (part_steps make)) (Fits (part_steps make))
part_read make back =
    steps_read (part_steps make) (
      missing_reads,
      λ n g. tt,
      λ n k g e. ap missing_of e ∙ back n,
      inr (λ n k rest g h ends. ends),
    )

abbrev kind_tail : KindForm → CombKind → List ℕ
kind_tail kind.Func k = []
kind_tail kind.Cons k = []
kind_tail kind.FuncPart k = text_by (part_steps (λ n. of.FuncPartCall n)) k
kind_tail kind.ConsPart k = text_by (part_steps (λ n. of.ConsPartCall n)) k

abbrev KindGood : KindForm → CombKind → Type 0
KindGood kind.Func k = k ≡ of.FuncCall
KindGood kind.Cons k = k ≡ of.ConsCall
KindGood kind.FuncPart k = Fits (part_steps (λ n. of.FuncPartCall n)) k
KindGood kind.ConsPart k = Fits (part_steps (λ n. of.ConsPartCall n)) k

kind_finds : (f : KindForm) → AnyKind f → Finds kind_word kind_words f
kind_finds kind.Func g = inl (refl, refl)
kind_finds kind.Cons g = inr (refl, inl (refl, refl))
kind_finds kind.FuncPart g = inr (refl, inr (refl, inl (refl, refl)))
kind_finds kind.ConsPart g = inr (refl, inr (refl, inr (refl, inl (refl, refl))))

kind_second : (f : KindForm) → AnyKind f
    → Reads no_digit (kind_of_form f) (kind_tail f) (KindGood f)
kind_second kind.Func g = steps_read (Done of.FuncCall) tt
kind_second kind.Cons g = steps_read (Done of.ConsCall) tt
kind_second kind.FuncPart g = part_read (λ n. of.FuncPartCall n) (λ n. refl)
kind_second kind.ConsPart g = part_read (λ n. of.ConsPartCall n) (λ n. refl)

kind_exact : (f : KindForm) (k : CombKind) → AnyKind f → KindGood f k → kind_form k ≡ f
kind_exact kind.Func k g h = ap kind_form h
kind_exact kind.Cons k g h = ap kind_form h
kind_exact kind.FuncPart k g h = ap kind_form h.1
kind_exact kind.ConsPart k g h = ap kind_form h.1

-- a kind and the space after it
abbrev pub spaced_kind : CombKind → List ℕ
spaced_kind k = kind_text k ++ codes " "

part_text : (word n : List ℕ) → (40 ∷ ((word ++ n) ++ 41 ∷ [])) ++ 32 ∷ []
    ≡ (40 ∷ word) ++ ((n ++ 41 ∷ 32 ∷ []) ++ [])
part_text word n =
    ap (λ z. 40 ∷ z)
    (append_assoc (word ++ n) (41 ∷ []) (32 ∷ []) ∙ append_assoc word n (41 ∷ 32 ∷ [])
    ∙ ap (λ z. word ++ z) (sym (append-nil (n ++ 41 ∷ 32 ∷ []))))

kind_spelled : (k : CombKind) → spaced_kind k ≡ kind_word (kind_form k) ++ kind_tail (kind_form k) k
kind_spelled of.FuncCall = refl
kind_spelled of.ConsCall = refl
kind_spelled (of.FuncPartCall n) = part_text (codes "FuncPartCall ") (decimal n)
kind_spelled (of.ConsPartCall n) = part_text (codes "ConsPartCall ") (decimal n)

kind_from : (k : CombKind) → IsKind k → AnyKind (kind_form k) × KindGood (kind_form k) k
kind_from of.FuncCall g = (tt, refl)
kind_from of.ConsCall g = (tt, refl)
kind_from (of.FuncPartCall n) g = (tt, (g, refl))
kind_from (of.ConsPartCall n) g = (tt, (g, refl))

kind_into : (k : CombKind) → AnyKind (kind_form k) × KindGood (kind_form k) k → IsKind k
kind_into of.FuncCall g = tt
kind_into of.ConsCall g = tt
kind_into (of.FuncPartCall n) g = g.1.0
kind_into (of.ConsPartCall n) g = g.1.0

pub kind_reads : Reads no_digit kind_at spaced_kind IsKind
unfolding kind_at
kind_reads =
    same_reads no_digit kind_at (λ k. kind_word (kind_form k) ++ kind_tail (kind_form k) k)
    spaced_kind (λ k. AnyKind (kind_form k) × KindGood (kind_form k) k) IsKind
    (tag_reads kind_words kind_word AnyKind kind.Func tt
    ((tt, refl), ((tt, refl), ((tt, refl), ((tt, refl), tt)))) kind_finds kind_of_form kind_tail
    KindGood kind_form kind_second kind_exact)
    (λ k g. (kind_from k g, kind_spelled k)) (λ k g. (kind_into k g, kind_spelled k))

-- ---- patterns

abbrev pattern_word : PatternForm → List ℕ
pattern_word pattern.Built = codes "Pattern "
pattern_word pattern.Exactly = codes "LPattern ("

abbrev AnyPattern : PatternForm → Type 0
AnyPattern f = Unit {0}

abbrev pattern_form : Pattern Entity → PatternForm
pattern_form (m.Built e xs) = pattern.Built
pattern_form (m.Exactly l) = pattern.Exactly

abbrev pattern_entity : Pattern Entity → Entity
pattern_entity (m.Built e xs) = e
pattern_entity (m.Exactly l) = no_entity

abbrev pattern_variables : Pattern Entity → List ℕ
pattern_variables (m.Built e xs) = xs
pattern_variables (m.Exactly l) = []

abbrev pattern_literal : Pattern Entity → Lit
pattern_literal (m.Built e xs) = lit.Char 0
pattern_literal (m.Exactly l) = l

abbrev built_steps : Steps (Pattern Entity)
built_steps =
    Part Entity no_digit entity_at entity_text IsEntity pattern_entity
    (λ e. Word (codes " ")
    (Part (List ℕ) no_digit numbers_at numbers_text (All IsNumber) pattern_variables
    (λ xs. Done (m.Built e xs))))

abbrev exactly_steps : Steps (Pattern Entity)
exactly_steps =
    Part Lit no_digit literal_at literal_text IsLiteral pattern_literal
    (λ l. Word (codes ")") (Done (m.Exactly l)))

abbrev pattern_steps : PatternForm → Steps (Pattern Entity)
pattern_steps pattern.Built = built_steps
pattern_steps pattern.Exactly = exactly_steps

pattern_finds : (f : PatternForm) → AnyPattern f → Finds pattern_word pattern_words f
pattern_finds pattern.Built g = inl (refl, refl)
pattern_finds pattern.Exactly g = inr (refl, inl (refl, refl))

pattern_second : (f : PatternForm) → AnyPattern f
    → Reads no_digit (pattern_of_form f) (text_by (pattern_steps f)) (Fits (pattern_steps f))
pattern_second pattern.Built g =
    steps_read built_steps (
      entity_reads,
      λ e g. (
        numbers_reads,
        λ xs h. tt,
        λ xs p h f. ap pattern_variables f,
        inr (λ xs p rest g h ends. ends),
      ),
      λ e p g f. ap pattern_entity f.1,
      inr (λ e p rest g h ends. refl),
    )
pattern_second pattern.Exactly g =
    steps_read exactly_steps (
      literal_reads,
      λ l g. tt,
      λ l p g f. ap pattern_literal f,
      inr (λ l p rest g h ends. refl),
    )

pattern_exact : (f : PatternForm) (p : Pattern Entity) → AnyPattern f → Fits (pattern_steps f) p
    → pattern_form p ≡ f
pattern_exact pattern.Built p g h = ap pattern_form h.1.1
pattern_exact pattern.Exactly p g h = ap pattern_form h.1

pattern_spelled : (p : Pattern Entity)
    → pattern_text p
    ≡ pattern_word (pattern_form p) ++ text_by (pattern_steps (pattern_form p)) p
pattern_spelled (m.Built e xs) =
    ap (λ z. codes "Pattern " ++ (entity_text e ++ (codes " " ++ z)))
    (sym (append-nil (numbers_text xs)))
pattern_spelled (m.Exactly l) = refl

pattern_from : (p : Pattern Entity) → IsPattern p
    → AnyPattern (pattern_form p) × Fits (pattern_steps (pattern_form p)) p
pattern_from (m.Built e xs) g = (tt, (g.0, (g.1, refl)))
pattern_from (m.Exactly l) g = (tt, (g, refl))

pattern_into : (p : Pattern Entity)
    → AnyPattern (pattern_form p) × Fits (pattern_steps (pattern_form p)) p → IsPattern p
pattern_into (m.Built e xs) g = (g.1.0, g.1.1.0)
pattern_into (m.Exactly l) g = g.1.0

pub pattern_reads : Reads no_digit pattern_at pattern_text IsPattern
unfolding pattern_at
pattern_reads =
    same_reads no_digit pattern_at
    (λ p. pattern_word (pattern_form p) ++ text_by (pattern_steps (pattern_form p)) p)
    pattern_text (λ p. AnyPattern (pattern_form p) × Fits (pattern_steps (pattern_form p)) p)
    IsPattern
    (tag_reads pattern_words pattern_word AnyPattern pattern.Built tt
    ((tt, refl), ((tt, refl), tt)) pattern_finds pattern_of_form
    (λ f. text_by (pattern_steps f)) (λ f. Fits (pattern_steps f)) pattern_form pattern_second
    pattern_exact)
    (λ p g. (pattern_from p g, pattern_spelled p)) (λ p g. (pattern_into p g, pattern_spelled p))
