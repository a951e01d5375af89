-- Runs of characters of a class, and what follows them.
use Rattle.std.proofs.Common.{◌≡◌, ℕ, zero, suc, ◌+◌, ◌*◌, ◌<◌, ◌≤◌, Bool, true, false, ◌&&◌, ◌==◌, List, [], ◌∷◌, ◌++◌, length, Some, None, if◌then◌else◌, refl, sym, ap, ◌∙◌, arith, true≢false, ◌-◌}
use Rattle.std.proofs.lemmas.Bool.{lt-ltb}
use Rattle.std.specs.List.{list_all}
use Rattle.std.specs.Str.{byte, chars}
use Rattle.cu_lex.specs.declared.cursor.Cursor.{Cursor}
use Rattle.cu_lex.specs.Located.{Located, characters}
use Rattle.cu_lex.specs.Inside.Scanning.{position, left, first_of, later, run, skip, comment_end, EndsIn, digits, digits_from, is_digit_of}
use Rattle.std.specs.Char.{digit_value}
use Rattle.cu_lex.specs.Words.{begins_with}
use Rattle.std.proofs.lemmas.Str.{length-le-encodes, encodes-chars, IsUtf8-from_is_utf8}
use Rattle.cu_lex.proofs.CursorLemmas.{characters-located}

pub skip-none : (class : ℕ → Bool) (text : List Located) → begins_with class (characters text) ≡ false → skip class text ≡ text
skip-none class [] no_first = refl
skip-none class (c ∷ text) no_first = rw no_first refl

pub run-none : (class : ℕ → Bool) (text : List Located) → begins_with class (characters text) ≡ false → run class text ≡ []
run-none class [] no_first = refl
run-none class (c ∷ text) no_first = rw no_first refl

pub run-skip : (class : ℕ → Bool) (text : List Located) → run class text ++ skip class text ≡ text
run-skip class [] = refl
run-skip class (c ∷ text) = by (class c.char) (run-skip class text)
  where
    by : (b : Bool) → run class text ++ skip class text ≡ text → (if b then c ∷ run class text else []) ++ (if b then skip class text else c ∷ text) ≡ c ∷ text
    by true more = ap (λ t. c ∷ t) more
    by false more = refl

pub ends-skip : (class : ℕ → Bool) (text : List Located) → EndsIn text (skip class text)
ends-skip class text = (run class text, run-skip class text)

pub all-run : (class : ℕ → Bool) (text : List Located) → list_all class (characters (run class text)) ≡ true
all-run class [] = refl
all-run class (c ∷ text) = by (class c.char) refl (all-run class text)
  where
    by : (b : Bool) → class c.char ≡ b → list_all class (characters (run class text)) ≡ true → list_all class (characters (if b then c ∷ run class text else [])) ≡ true
    by true is more = rw (is, more) refl
    by false is more = refl

-- what follows a run doesn't go on with it
pub skip-ended : (class : ℕ → Bool) (text : List Located) → begins_with class (characters (skip class text)) ≡ false
skip-ended class [] = refl
skip-ended class (c ∷ text) = by (class c.char) refl (skip-ended class text)
  where
    by : (b : Bool) → class c.char ≡ b → begins_with class (characters (skip class text)) ≡ false → begins_with class (characters (if b then skip class text else c ∷ text)) ≡ false
    by true is more = more
    by false is more = is

and-left : (a b : Bool) → a && b ≡ true → a ≡ true
and-left true b is = refl
and-left false b is = is

and-right : (a b : Bool) → a && b ≡ true → b ≡ true
and-right true b is = is
and-right false b is = absurd (true≢false (sym is))

-- a prefix of the class, after which nothing goes on with it, is the run
pub run-unique : (class : ℕ → Bool) (prefix rest : List Located) → list_all class (characters prefix) ≡ true → begins_with class (characters rest) ≡ false
    → skip class (prefix ++ rest) ≡ rest
run-unique class [] rest all ended = skip-none class rest ended
run-unique class (c ∷ prefix) rest all ended =
    let first : class c.char ≡ true = and-left (class c.char) (list_all class (characters prefix)) all in
    let others : list_all class (characters prefix) ≡ true = and-right (class c.char) (list_all class (characters prefix)) all in
    rw first (run-unique class prefix rest others ended)

sizes : (text : List Located) → length (characters text) ≡ length text
sizes [] = refl
sizes (c ∷ text) = ap suc (sizes text)

-- a text in memory is short
pub left-short : (cursor : Cursor) → length (left cursor) ≤ length cursor.text.now
unfolding left
left-short cursor =
    let text = chars cursor.text.now in
    let size : length (left cursor) ≡ length text = sym (sizes (left cursor)) ∙ ap length (characters-located (position cursor) text) in
    let most = length-le-encodes text in
    let bytes = ap length (encodes-chars cursor.text.now (IsUtf8-from_is_utf8 cursor.text.now cursor.utf8)) in
    omega arith

-- ---- comments

abbrev opening : ℕ → ℕ → Bool
opening a b = a == byte "{" && b == byte "-"

abbrev closing : ℕ → ℕ → Bool
closing a b = a == byte "-" && b == byte "}"

-- the first two characters
pub record Two (text : List Located) (a b : ℕ) : Type 0 where
  pub first : first_of text ≡ Some a
  pub second : first_of (later text) ≡ Some b

pub comment-opens : (depth : ℕ) (text : List Located) (a b : ℕ) → 0 < depth → Two text a b → opening a b ≡ true → comment_end (depth + 1) (later (later text)) ≡ comment_end depth text
comment-opens zero text a b inside two is = absurd (omega arith)
comment-opens (suc n) [] a b inside two is = let first = two.first in cc
comment-opens (suc n) (c ∷ []) a b inside two is = let second = two.second in cc
comment-opens (suc n) (c ∷ d ∷ text) a b inside two is =
    let first : c.char ≡ a = let e = two.first in cc in
    let second : d.char ≡ b = let e = two.second in cc in
    let test : opening c.char d.char ≡ true = rw (first, second) is in
    let deeper : suc n + 1 ≡ suc (suc n) = omega arith in
    rw (test, deeper) refl

pub comment-closes : (depth : ℕ) (text : List Located) (a b : ℕ) → 0 < depth → Two text a b → opening a b ≡ false → closing a b ≡ true → comment_end (depth - 1) (later (later text)) ≡ comment_end depth text
comment-closes zero text a b inside two no_open is = absurd (omega arith)
comment-closes (suc n) [] a b inside two no_open is = let first = two.first in cc
comment-closes (suc n) (c ∷ []) a b inside two no_open is = let second = two.second in cc
comment-closes (suc n) (c ∷ d ∷ text) a b inside two no_open is =
    let first : c.char ≡ a = let e = two.first in cc in
    let second : d.char ≡ b = let e = two.second in cc in
    let test : opening c.char d.char ≡ false = rw (first, second) no_open in
    let test' : closing c.char d.char ≡ true = rw (first, second) is in
    let less : suc n - 1 ≡ n = omega arith in
    rw (test, test', less) refl

pub comment-goes : (depth : ℕ) (text : List Located) (a b : ℕ) → 0 < depth → Two text a b → opening a b ≡ false → closing a b ≡ false → comment_end depth (later text) ≡ comment_end depth text
comment-goes zero text a b inside two no_open no_close = absurd (omega arith)
comment-goes (suc n) [] a b inside two no_open no_close = let first = two.first in cc
comment-goes (suc n) (c ∷ []) a b inside two no_open no_close = let second = two.second in cc
comment-goes (suc n) (c ∷ d ∷ text) a b inside two no_open no_close =
    let first : c.char ≡ a = let e = two.first in cc in
    let second : d.char ≡ b = let e = two.second in cc in
    let test : opening c.char d.char ≡ false = rw (first, second) no_open in
    let test' : closing c.char d.char ≡ false = rw (first, second) no_close in
    rw (test, test') refl

-- a comment that ends too soon isn't closed
pub comment-cut : (depth : ℕ) (text : List Located) → 0 < depth → first_of (later text) ≡ None → comment_end depth text ≡ None
comment-cut zero text inside none = absurd (omega arith)
comment-cut (suc n) [] inside none = refl
comment-cut (suc n) (c ∷ []) inside none = refl
comment-cut (suc n) (c ∷ d ∷ text) inside none = cc

pub comment-empty : (depth : ℕ) (text : List Located) → 0 < depth → first_of text ≡ None → comment_end depth text ≡ None
comment-empty zero text inside none = absurd (omega arith)
comment-empty (suc n) [] inside none = refl
comment-empty (suc n) (c ∷ text) inside none = cc

pub two-sizes : (text : List Located) (a b : ℕ) → Two text a b → length (later (later text)) + 2 ≡ length text
two-sizes [] a b two = let e = two.first in cc
two-sizes (c ∷ []) a b two = let e = two.second in cc
two-sizes (c ∷ d ∷ text) a b two = omega arith

pub later-size : (text : List Located) (a : ℕ) → first_of text ≡ Some a → length (later text) + 1 ≡ length text
later-size [] a first = cc
later-size (c ∷ text) a first = omega arith

pub step-opens : (depth : ℕ) (text rest end : List Located) (a b : ℕ) → 0 < depth → Two text a b → rest ≡ later text → end ≡ later rest → opening a b ≡ true
    → (comment_end (depth + 1) end ≡ comment_end depth text) × (length end < length text) × (depth + 1 + length end ≤ depth + length text)
step-opens depth text rest end a b inside two at at' is =
    let sizes = two-sizes text a b two in
    let same : end ≡ later (later text) = at' ∙ ap later at in
    rw same (comment-opens depth text a b inside two is, omega arith, omega arith)

pub step-closes : (depth : ℕ) (text rest end : List Located) (a b : ℕ) → 0 < depth → Two text a b → rest ≡ later text → end ≡ later rest → opening a b ≡ false → closing a b ≡ true
    → (comment_end (depth - 1) end ≡ comment_end depth text) × (length end < length text) × (depth - 1 + length end ≤ depth + length text)
step-closes depth text rest end a b inside two at at' no_open is =
    let sizes = two-sizes text a b two in
    let same : end ≡ later (later text) = at' ∙ ap later at in
    rw same (comment-closes depth text a b inside two no_open is, omega arith, omega arith)

pub step-goes : (depth : ℕ) (text rest : List Located) (a b : ℕ) → 0 < depth → Two text a b → rest ≡ later text → opening a b ≡ false → closing a b ≡ false
    → (comment_end depth rest ≡ comment_end depth text) × (length rest < length text) × (depth + length rest ≤ depth + length text)
step-goes depth text rest a b inside two at no_open no_close =
    let sizes = later-size text a two.first in
    rw at (comment-goes depth text a b inside two no_open no_close, omega arith, omega arith)

-- ---- digits

pub digits-step : (base n : ℕ) (text : List Located) (c : ℕ) → first_of text ≡ Some c → digit_value c < base
    → digits_from base n (digits base text) ≡ digits_from base (n * base + digit_value c) (digits base (later text))
digits-step base n [] c first is = cc
digits-step base n (d ∷ text) c first is =
    let same : d.char ≡ c = cc in
    let test : is_digit_of base d.char ≡ true = rw same (lt-ltb (digit_value c) base is) in
    rw (test, same) refl

pub digits-skip : (base : ℕ) (text : List Located) (c : ℕ) → first_of text ≡ Some c → digit_value c < base
    → skip (is_digit_of base) text ≡ skip (is_digit_of base) (later text)
digits-skip base [] c first is = cc
digits-skip base (d ∷ text) c first is =
    let same : d.char ≡ c = cc in
    let test : is_digit_of base d.char ≡ true = rw same (lt-ltb (digit_value c) base is) in
    rw test refl
