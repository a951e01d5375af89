-- Readers of lists of bytes: what is read first and the bytes after it, or how many bytes are left
-- where the fault is.
use Rattle.std.specs.Prelude.{ℕ, zero, suc, ◌+◌, ◌-◌, ◌*◌, Bool, true, false, ◌&&◌, List, [], ◌∷◌, Option, None, Some, Result, Ok, Err, if◌then◌else◌, length, nat_eq, nat_le}

infixl 10 ◌>>=◌
-- what comes next, where there is no fault so far
abbrev pub ◌>>=◌ : {A B : Type 0} → Result A ℕ → (A → Result B ℕ) → Result B ℕ
(Ok x) >>= f = f x
(Err n) >>= f = Err n

-- what is read from bytes, and the bytes after it
abbrev pub Reader : Type 0 → Type 0
Reader A = List ℕ → Result (A × List ℕ) ℕ

-- the bytes after a word that they begin with
abbrev pub word_at : List ℕ → List ℕ → Result (List ℕ) ℕ
word_at [] bytes = Ok bytes
word_at (w ∷ ws) [] = Err 0
word_at (w ∷ ws) (b ∷ bs) = if nat_eq b w then word_at ws bs else Err (length (b ∷ bs))

-- a word alone
abbrev pub word : List ℕ → Reader (Unit {0})
word w bytes = word_at w bytes >>= λ rest. Ok (tt, rest)

-- two parts, the second after the first
abbrev pub pair : {A B : Type 0} → Reader A → (A → Reader B) → Reader (A × B)
pair r s bytes = r bytes >>= λ p. s p.0 p.1 >>= λ q. Ok ((p.0, q.0), q.1)

-- what a part stands for
abbrev pub made : {A B : Type 0} → (A → B) → Reader A → Reader B
made f r bytes = r bytes >>= λ p. Ok (f p.0, p.1)

-- a part after a word
abbrev pub after : {A : Type 0} → List ℕ → Reader A → Reader A
after w r = made (λ p. p.1) (pair (word w) (λ u. r))

-- a part before a word
abbrev pub ended : {A : Type 0} → Reader A → List ℕ → Reader A
ended r w = made (λ p. p.0) (pair r (λ x. word w))

-- the reader that a table has for a byte, from the bytes after it
abbrev pub chosen : {A : Type 0} → Option (Reader A) → ℕ → List ℕ → Result (A × List ℕ) ℕ
chosen None b bs = Err (length (b ∷ bs))
chosen (Some r) b bs = r bs

-- the reader that a table has for the first byte, from the bytes after it
abbrev pub choose : {A : Type 0} → (ℕ → Option (Reader A)) → Reader A
choose table [] = Err 0
choose table (b ∷ bs) = chosen (table b) b bs

-- so many parts
abbrev pub many : {A : Type 0} → Reader A → ℕ → Reader (List A)
many r zero bytes = Ok ([], bytes)
many r (suc n) bytes = made (λ p. p.0 ∷ p.1) (pair r (λ x. many r n)) bytes

-- ---- numbers

-- whether a byte is a decimal digit
abbrev pub is_digit : ℕ → Bool
is_digit b = nat_le 48 b && nat_le b 57

-- a number where a test allows it
abbrev pub allowed : (ℕ → Bool) → ℕ → Option ℕ
allowed leads n = if leads n then Some n else None

-- the number after one more digit, where it leads to a number that fits; none follows a zero
abbrev pub next_number : (ℕ → Bool) → Option ℕ → ℕ → Option ℕ
next_number leads None d = allowed leads d
next_number leads (Some zero) d = None
next_number leads (Some (suc n)) d = allowed leads (suc n * 10 + d)

-- a number that ends before these bytes, by whether it fits
abbrev pub ended_at : Bool → ℕ → List ℕ → Result (ℕ × List ℕ) ℕ
ended_at true n bytes = Ok (n, bytes)
ended_at false n bytes = Err (length bytes)

-- the number that ends before these bytes, where it fits
abbrev pub number_end : (ℕ → Bool) → Option ℕ → Reader ℕ
number_end fits None rest = Err (length rest)
number_end fits (Some n) rest = ended_at (fits n) n rest

-- a number that fits, by its digits, after those that make this number
abbrev pub digits_at : (ℕ → Bool) → (ℕ → Bool) → Option ℕ → Reader ℕ
digits_at leads fits s [] = number_end fits s []
digits_at leads fits s (b ∷ bs) =
    if is_digit b
    then elim (next_number leads s (b - 48)) [
      | Some n ↦ digits_at leads fits (Some n) bs
      | None ↦ Err (length (b ∷ bs))
    ]
    else number_end fits s (b ∷ bs)

-- ---- either of two

-- one reader after this byte, and another one where the bytes begin with none
abbrev pub either : {A : Type 0} → ℕ → Reader A → Reader A → Reader A
either b r s [] = s []
either b r s (c ∷ cs) = if nat_eq c b then r cs else s (c ∷ cs)
