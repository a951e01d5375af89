-- One step of the lexer.
use Rattle.std.proofs.Common.{◌≡◌, ℕ, ℤ, pos, Bool, true, false, List, [], ◌∷◌, Option, Some, None, Ok, Err, if◌then◌else◌, refl, sym, ap, ◌∙◌, true≢false}
use Rattle.std.specs.Char.{is_ascii_digit}
use Rattle.std.specs.Option.{option_map}
use lib.Utf8.{scalar}
use Rattle.cu_lex.specs.Inside.Items.{string_items, item_scan, IsQuoted}
use Rattle.cu_lex.specs.Kind.Kind.{Int, Char, String}
use Rattle.cu_int.specs.Integers.{checked, is_integer}
use Rattle.cu_lex.specs.Inside.Lexing.{IsPiece}
use Rattle.cu_lex.specs.Located.{Located, Position, characters}
use Rattle.cu_lex.specs.Munch.{cut_at, longest}
use Rattle.cu_lex.specs.Pieces.{piece, number_at, start, codes_of, string_of, character_at}
use Rattle.cu_lex.specs.Pieces.Piece.{Token, OutOfRange}
use Rattle.cu_lex.specs.Inside.Scanning.{held, later, number_scan, within}
use Rattle.cu_lex.specs.Words.{begins_with}
use Rattle.cu_lex.proofs.FirstLemmas.{is_char}
use Rattle.cu_lex.proofs.NumberLemmas.{number-longest, number-never}
use Rattle.cu_lex.proofs.QuoteLemmas.{character-longest, character-never, one-from, scan-from, string-longest}

-- ---- numbers

no-scan : (s : Option (ℕ × List Located)) → None ≡ option_map held s → s ≡ None
no-scan None is = refl
no-scan (Some x) is = cc

pub no-number-piece : (text : List Located) → begins_with is_ascii_digit (characters text) ≡ true → None ≡ option_map held (number_scan text) → longest piece text ≡ None
no-number-piece text digit is = number-never text digit (no-scan (number_scan text) is)

pub record Scan (text : List Located) (value : Option ℕ) (end : List Located) : Type 0 where
  pub number : ℕ
  pub held_as : value ≡ within number
  pub prefix : List Located
  pub cut : longest piece text ≡ Some (cut_at prefix end (number_at (start text) number))

pub number-scan : (text : List Located) (value : Option ℕ) (end : List Located) → begins_with is_ascii_digit (characters text) ≡ true → Some (value, end) ≡ option_map held (number_scan text) → Scan text value end
number-scan text value end digit is = by (number_scan text) refl is
  where
    by : (s : Option (ℕ × List Located)) → number_scan text ≡ s → Some (value, end) ≡ option_map held s → Scan text value end
    by None at is = absurd (let impossible : ⊥ = cc in impossible)
    by (Some (n, rest)) at is =
        let both : (value, end) ≡ held (n, rest) = cc in
        let found = number-longest text n rest digit at in
        record {
          number = n;
          held_as = ap (λ x. x.0) both;
          prefix = found.0;
          cut = found.1 ∙ ap (λ t. Some (cut_at found.0 t (number_at (start text) n))) (sym (ap (λ x. x.1) both));
        }

in-range : (p : Position) (n : ℕ) (v : ℤ) → Some v ≡ checked (pos n) → number_at p n ≡ Token (Int v)
in-range p n v is = by (is_integer (pos n)) is
  where
    by : (b : Bool) → Some v ≡ (if b then Some (pos n) else None) → (if b then Token (Int (pos n)) else OutOfRange p) ≡ Token (Int v)
    by true is = let same : v ≡ pos n = cc in ap (λ x. Token (Int x)) (sym same)
    by false is = absurd (let impossible : ⊥ = cc in impossible)

out-of-range : (p : Position) (n : ℕ) → None ≡ checked (pos n) → number_at p n ≡ OutOfRange p
out-of-range p n is = by (is_integer (pos n)) is
  where
    by : (b : Bool) → None ≡ (if b then Some (pos n) else None) → (if b then Token (Int (pos n)) else OutOfRange p) ≡ OutOfRange p
    by true is = absurd (let impossible : ⊥ = cc in impossible)
    by false is = refl

pub int-piece : (text : List Located) (value : Option ℕ) (end : List Located) (v : ℤ) (s : Scan text value end) → Some v ≡ checked (pos s.number) → IsPiece text (Token (Int v)) end
int-piece text value end v s is = record { prefix = s.prefix; cut = s.cut ∙ ap (λ p. Some (cut_at s.prefix end p)) (in-range (start text) s.number v is) }

start-at : (text : List Located) (p : Position) → begins_with is_ascii_digit (characters text) ≡ true → ((first : Located) (rest : List Located) → text ≡ first ∷ rest → p ≡ first.at) → start text ≡ p
start-at [] p digit at = absurd (true≢false (sym digit))
start-at (c ∷ text) p digit at = sym (at c text refl)

pub int-fault : (text : List Located) (value : Option ℕ) (end : List Located) (p : Position) → begins_with is_ascii_digit (characters text) ≡ true → ((first : Located) (rest : List Located) → text ≡ first ∷ rest → p ≡ first.at)
    → (s : Scan text value end) → None ≡ checked (pos s.number) → IsPiece text (OutOfRange p) end
int-fault text value end p digit at s is =
    record { prefix = s.prefix; cut = s.cut ∙ ap (λ q. Some (cut_at s.prefix end q)) (out-of-range (start text) s.number is ∙ ap OutOfRange (start-at text p digit at)) }

-- ---- characters

char-in-range : (p : Position) (n : ℕ) → scalar n ≡ true → character_at p n ≡ Token (Char n)
char-in-range p n is = rw is refl

char-out : (p : Position) (n : ℕ) → scalar n ≡ false → character_at p n ≡ OutOfRange p
char-out p n is = rw is refl

pub character-piece-is : (text close end : List Located) (n : ℕ) → begins_with (is_char 39) (characters text) ≡ true → item_scan 39 (later text) ≡ Some (Some n, close) → IsQuoted 39 close end → scalar n ≡ true → IsPiece text (Token (Char n)) end
character-piece-is [] close end n begins is q fits = absurd (true≢false (sym begins))
character-piece-is (first ∷ text) close end n begins is q fits =
    let one = one-from first text close end n is q in
    let found = character-longest (first ∷ text) end n one.0 begins one.2 in
    record { prefix = found.0; cut = found.1 ∙ ap (λ p. Some (cut_at found.0 end p)) (char-in-range one.0 n fits) }

pub character-fault : (text close end : List Located) (n : ℕ) (p : Position) → begins_with (is_char 39) (characters text) ≡ true → item_scan 39 (later text) ≡ Some (Some n, close) → IsQuoted 39 close end → scalar n ≡ false
    → ((first : Located) (rest : List Located) → later text ≡ first ∷ rest → p ≡ first.at) → IsPiece text (OutOfRange p) end
character-fault [] close end n p begins is q wrong at = absurd (true≢false (sym begins))
character-fault (first ∷ []) close end n p begins is q wrong at = absurd (let impossible : ⊥ = cc in impossible)
character-fault (first ∷ c ∷ text) close end n p begins is q wrong at =
    let one = one-from first (c ∷ text) close end n is q in
    let found = character-longest (first ∷ c ∷ text) end n one.0 begins one.2 in
    let same : one.0 ≡ p = one.1 c text refl ∙ sym (at c text refl) in
    record { prefix = found.0; cut = found.1 ∙ ap (λ x. Some (cut_at found.0 end x)) (char-out one.0 n wrong ∙ ap OutOfRange same) }

pub character-bad : (text : List Located) → begins_with (is_char 39) (characters text) ≡ true → ((n : ℕ) (close end : List Located) → item_scan 39 (later text) ≡ Some (Some n, close) → IsQuoted 39 close end → ⊥) → longest piece text ≡ None
character-bad text begins never = character-never text begins (λ end n p one. let s = scan-from text end n p one in never n s.0 end s.1 s.2)

-- ---- strings

pub string-piece-is : (text end : List Located) (value : List ℕ) → begins_with (is_char 34) (characters text) ≡ true → IsQuoted 34 ((string_items text).left) end → codes_of (string_items text).pieces ≡ Ok value → IsPiece text (Token (String value)) end
string-piece-is text end value begins q codes =
    let found = string-longest text end begins q in
    record { prefix = found.0; cut = found.1 ∙ ap (λ c. Some (cut_at found.0 end (string_of c))) codes }

pub string-fault : (text end : List Located) (p p' : Position) → begins_with (is_char 34) (characters text) ≡ true → IsQuoted 34 ((string_items text).left) end → codes_of (string_items text).pieces ≡ Err p' → p ≡ p' → IsPiece text (OutOfRange p) end
string-fault text end p p' begins q codes same =
    let found = string-longest text end begins q in
    record { prefix = found.0; cut = found.1 ∙ ap (λ c. Some (cut_at found.0 end (string_of c))) codes ∙ ap (λ x. Some (cut_at found.0 end (OutOfRange x))) (sym same) }
