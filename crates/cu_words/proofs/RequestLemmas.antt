-- What the readers of lines found.
use Rattle.std.proofs.Common.{Bor, MatchOption, ◌+◌, ◌≡◌, ◌∙◌, sym, ap, refl, ℕ, ◌≤◌, ◌<◌, Bool, true, false, cond, ◌&&◌, List, [], ◌∷◌, length, take, drop, nat_eq, nat_le, Option, Some, None, IfSome, IfNone, IsTrue, if◌then◌else◌, arith}
use Rattle.std.specs.List.{list_all, onto_first, slice_split}
use Rattle.std.specs.Cmp.Lexicographic.{pointwise}
use Rattle.std.specs.Str.{IsAscii, IsUtf8}
use Rattle.std.specs.Str.Parse.{digits_value}
use Rattle.std.proofs.lemmas.Bool.{and_from, and_parts, cases_Bool, false≢true, le-leb, leb-true}
use Rattle.std.proofs.lemmas.Bool.Decides.{nat_tests}
use Rattle.std.proofs.lemmas.Str.{IsUtf8-from_ascii}
use Rattle.std.proofs.lemmas.Str.Ascii.{IsAscii-cons, IsAscii-nil}
use Rattle.cu_words.specs.Names.{is_between, is_digit, is_dot, is_letter, is_module_name, is_name, is_name_byte}
use Rattle.cu_words.specs.Numbers.{IsIn, IsNumber}
use Rattle.cu_words.specs.Requests.{Text, after, is_number_to, number_to}

-- ---- what stands after a beginning

same_byte : (same others : Bool) (found : Option Text) (rest : Text) → (same && others) ≡ true → (others ≡ true → found ≡ Some rest)
    → (if same then found else None) ≡ Some rest
same_byte true others found rest is later = later is
same_byte false others found rest is later = absurd (false≢true is)

other_byte : (same others : Bool) (found : Option Text) → (same && others) ≡ false → (others ≡ false → found ≡ None) → (if same then found else None) ≡ None
other_byte true others found is later = later is
other_byte false others found is later = refl

pub after_found : (beginning text : Text) → pointwise nat_eq (take (length beginning) text) beginning ≡ true → after beginning text ≡ Some (drop (length beginning) text)
unfolding after
after_found [] text is = refl
after_found (b ∷ bs) [] is = absurd (false≢true is)
after_found (b ∷ bs) (c ∷ cs) is =
    same_byte (nat_eq c b) (pointwise nat_eq (take (length bs) cs) bs) (after bs cs) (drop (length bs) cs) is (after_found bs cs)

pub after_missing : (beginning text : Text) → pointwise nat_eq (take (length beginning) text) beginning ≡ false → after beginning text ≡ None
unfolding after
after_missing [] text is = absurd (false≢true (sym is))
after_missing (b ∷ bs) [] is = refl
after_missing (b ∷ bs) (c ∷ cs) is =
    other_byte (nat_eq c b) (pointwise nat_eq (take (length bs) cs) bs) (after bs cs) is (after_missing bs cs)

-- what `strip_prefix` gives
abbrev IsStripped : Text → Text → Option (Bor Text) → Type 0
IsStripped beginning text r = MatchOption r (pointwise nat_eq (take (length beginning) text) beginning ≡ false)
    (λ rest. (pointwise nat_eq (take (length beginning) text) beginning ≡ true) × (rest.now ≡ drop (length beginning) text)
    × (length rest.now + length beginning ≡ length text))

pub after_read : (beginning bytes text : Text) (r : Option (Bor Text)) → bytes ≡ beginning → IsStripped bytes text r
    → IfSome r (λ rest. after beginning text ≡ Some rest.now)
after_read beginning bytes text None same stripped = tt
after_read beginning bytes text (Some rest) same stripped =
    ap (λ (b : Text). after b text) (sym same) ∙ after_found bytes text stripped.0 ∙ ap Some (sym stripped.1)

pub after_unread : (beginning bytes text : Text) (r : Option (Bor Text)) → bytes ≡ beginning → IsStripped bytes text r
    → IfNone r (after beginning text ≡ None)
after_unread beginning bytes text None same stripped = ap (λ (b : Text). after b text) (sym same) ∙ after_missing bytes text stripped
after_unread beginning bytes text (Some rest) same stripped = tt

-- ---- texts of ASCII

pub all_ascii : (test : ℕ → Bool) → ((b : ℕ) → test b ≡ true → b < 128) → (text : Text) → list_all test text ≡ true → IsAscii text
all_ascii test small [] is = IsAscii-nil
all_ascii test small (b ∷ bs) is =
    let parts = and_parts (test b) (list_all test bs) is in
    IsAscii-cons b bs (small b parts.0) (all_ascii test small bs parts.1)

digit_small : (b : ℕ) → is_digit b ≡ true → b < 128
digit_small b is = grind (arith, nat_tests)

name_byte_small : (b : ℕ) → is_name_byte b ≡ true → b < 128
name_byte_small b is = grind (arith, nat_tests)

dot_small : (b : ℕ) → is_dot b ≡ true → b < 128
dot_small b is = grind (arith, nat_tests)

letter_in_name : (b : ℕ) → is_letter b ≡ true → is_name_byte b ≡ true
letter_in_name b is = grind (arith, nat_tests)

abbrev has_name_bytes : Text → Bool
has_name_bytes text = list_all is_name_byte text

name_has : (name : Text) → is_name name ≡ true → has_name_bytes name ≡ true
name_has [] is = refl
name_has (b ∷ bs) is =
    let parts = and_parts (is_letter b) (list_all is_name_byte bs) is in
    and_from (is_name_byte b) (has_name_bytes bs) (letter_in_name b parts.0) parts.1

names_have : (names : List Text) → list_all is_name names ≡ true → list_all has_name_bytes names ≡ true
names_have [] is = refl
names_have (name ∷ names) is =
    let parts = and_parts (is_name name) (list_all is_name names) is in
    and_from (has_name_bytes name) (list_all has_name_bytes names) (name_has name parts.0) (names_have names parts.1)

-- what holds of names of which the first is one byte longer
longer : (b : ℕ) (names : List Text) → list_all has_name_bytes (onto_first b names) ≡ true → (is_name_byte b ≡ true) × (list_all has_name_bytes names ≡ true)
longer b [] is = ((and_parts (is_name_byte b) true (and_parts (is_name_byte b && true) true is).0).0, refl)
longer b (name ∷ names) is =
    let parts = and_parts (is_name_byte b && has_name_bytes name) (list_all has_name_bytes names) is in
    let bytes = and_parts (is_name_byte b) (has_name_bytes name) parts.0 in
    (bytes.0, and_from (has_name_bytes name) (list_all has_name_bytes names) bytes.1 parts.1)

split_by : (b : ℕ) (bs : Text) (dot : Bool) → is_dot b ≡ dot
    → list_all has_name_bytes (cond dot ([] ∷ slice_split is_dot bs) (onto_first b (slice_split is_dot bs))) ≡ true
    → (b < 128) × (list_all has_name_bytes (slice_split is_dot bs) ≡ true)
split_by b bs true dot is = (dot_small b dot, is)
split_by b bs false dot is =
    let parts = longer b (slice_split is_dot bs) is in
    (name_byte_small b parts.0, parts.1)

split_ascii : (text : Text) → list_all has_name_bytes (slice_split is_dot text) ≡ true → IsAscii text
split_ascii [] is = IsAscii-nil
split_ascii (b ∷ bs) is =
    let parts = split_by b bs (is_dot b) refl is in
    IsAscii-cons b bs parts.0 (split_ascii bs parts.1)

-- the name of a module is in characters
pub name_utf8 : (text : Text) → IsTrue (is_module_name text) → IsUtf8 text
name_utf8 text is = IsUtf8-from_ascii text (split_ascii text (names_have (slice_split is_dot text) is))

-- ---- numbers

tested : (high : ℕ) (text : Text) → is_number_to high text ≡ true → IsNumber 1 high text (digits_value 10 text)
tested high text is =
    let value = digits_value 10 text in
    let last = and_parts (nat_le 1 (length text) && nat_le (length text) 19 && list_all is_digit text) (is_between 1 high value) is in
    let digits = and_parts (nat_le 1 (length text) && nat_le (length text) 19) (list_all is_digit text) last.0 in
    let lengths = and_parts (nat_le 1 (length text)) (nat_le (length text) 19) digits.0 in
    let range = and_parts (nat_le 1 value) (nat_le value high) last.1 in
    record {
      some = leb-true 1 (length text) lengths.0;
      few = leb-true (length text) 19 lengths.1;
      digits = digits.1;
      value = refl;
      range = (leb-true 1 value range.0, leb-true value high range.1);
    }

passes : (high : ℕ) (text : Text) (n : ℕ) → IsNumber 1 high text n → is_number_to high text ≡ true
passes high text n is =
    let value = digits_value 10 text in
    let low : 1 ≤ value = omega (arith, is.value, is.range.0) in
    let most : value ≤ high = omega (arith, is.value, is.range.1) in
    and_from (nat_le 1 (length text) && nat_le (length text) 19 && list_all is_digit text) (is_between 1 high value)
    (and_from (nat_le 1 (length text) && nat_le (length text) 19) (list_all is_digit text)
    (and_from (nat_le 1 (length text)) (nat_le (length text) 19) (le-leb 1 (length text) is.some) (le-leb (length text) 19 is.few)) is.digits)
    (and_from (nat_le 1 value) (nat_le value high) (le-leb 1 value low) (le-leb value high most))

chosen : (test : Bool) (value n : ℕ) → test ≡ true → n ≡ value → Some n ≡ (if test then Some value else None)
chosen true value n is same = ap Some same
chosen false value n is same = absurd (false≢true is)

left_out : (test : Bool) (value : ℕ) → (test ≡ true → ⊥) → None ≡ (if test then Some value else None)
left_out true value never = absurd (never refl)
left_out false value never = refl

-- a number that was read, or that there is none
pub number_read : (high : ℕ) (text : Text) (r : Option ℕ) → IfSome r (IsNumber 1 high text) → IfNone r ((n : ℕ) → IsNumber 1 high text n → ⊥)
    → r ≡ number_to high text
unfolding number_to
number_read high text None read refused =
    left_out (is_number_to high text) (digits_value 10 text) (λ is. refused (digits_value 10 text) (tested high text is))
number_read high text (Some n) read refused = chosen (is_number_to high text) (digits_value 10 text) n (passes high text n read) read.value

-- what isn't in characters is no number
pub no_characters : (high : ℕ) (text : Text) → (IsUtf8 text → ⊥) → None ≡ number_to high text
unfolding number_to
no_characters high text never =
    left_out (is_number_to high text) (digits_value 10 text)
    (λ is. never (IsUtf8-from_ascii text (all_ascii is_digit digit_small text (tested high text is).digits)))

-- the same of the characters of a text
pub number_in_characters : (high : ℕ) (text bytes : Text) (r : Option ℕ) → text ≡ bytes → IfSome r (IsNumber 1 high text)
    → IfNone r ((n : ℕ) → IsNumber 1 high text n → ⊥) → r ≡ number_to high bytes
number_in_characters high text bytes r same read refused = number_read high text r read refused ∙ ap (number_to high) same

-- nothing was read, for this reason
pub for_want : {A : Type 0} (r : Option A) (P : Type 0) → P → IfNone r P
for_want None P why = why
for_want (Some found) P why = tt
