-- The reading of numbers and literals.
use Rattle.std.specs.Prelude.{ℕ, suc, ◌+◌, ◌-◌, ◌*◌, ◌^◌, Bool, false, ◌&&◌, not, List, [], ◌∷◌, Ok, Err, codes, if◌then◌else◌, length, nat_eq, nat_le, pos, negsuc}
use lib.Utf8.{scalar}
use Rattle.cu_calculus.specs.declared.Lit.{Lit}
use Rattle.cu_calculus.specs.declared.Lit.TheVariants as lit
use Rattle.cu_flatread.specs.Inside.Words.{Read, ◌>>=◌, after_word, is_at, list_at, one_of}
use Rattle.cu_flatread.specs.declared.numbers.LiteralForm.{LiteralForm}
use Rattle.cu_flatread.specs.declared.numbers.LiteralForm.TheVariants as form

abbrev pub is_digit : ℕ → Bool
is_digit b = nat_le 48 b && nat_le b 57

-- whether a digit comes next
abbrev pub at_digit : List ℕ → Bool
at_digit [] = false
at_digit (b ∷ bytes) = is_digit b

-- the number of which a part was read, where further digits follow it
unfoldable pub digits_at : ℕ → ℕ → List ℕ → Read ℕ
digits_at most value [] = Ok (value, [])
digits_at most value (b ∷ bytes) =
    if is_digit b
    then (if nat_le (value * 10 + (b - 48)) most
    then digits_at most (value * 10 + (b - 48)) bytes
    else Err (suc (length bytes)))
    else Ok (value, b ∷ bytes)

-- a number of no more than so much, from 1 on and without leading zeros
unfoldable pub positive_at : ℕ → List ℕ → Read ℕ
positive_at most [] = Err 0
positive_at most (b ∷ bytes) =
    if is_digit b && not (nat_eq b 48) then digits_at most (b - 48) bytes
    else Err (suc (length bytes))

-- a number of no more than so much, without leading zeros
unfoldable pub decimal_at : ℕ → List ℕ → Read ℕ
decimal_at most bytes =
    if is_at 48 bytes
    then (after_word (codes "0") bytes
    >>= λ rest. if at_digit rest then Err (length rest) else Ok (0, rest))
    else positive_at most bytes

abbrev pub most_number : ℕ
most_number = 2 ^ 64 - 1

abbrev pub number_at : List ℕ → Read ℕ
number_at = decimal_at most_number

abbrev pub level_at : List ℕ → Read ℕ
level_at = decimal_at (2 ^ 32 - 1)

abbrev pub numbers_at : List ℕ → Read (List ℕ)
numbers_at = list_at number_at

-- a negative integer, after its sign and up to the closing parenthesis
unfoldable pub negative_at : List ℕ → Read Lit
negative_at bytes =
    positive_at (2 ^ 127) bytes >>= λ size. after_word (codes ")") size.1
    >>= λ rest. Ok (lit.Int (negsuc (size.0 - 1)), rest)

-- an integer; one that is negative stands in parentheses
unfoldable pub integer_at : List ℕ → Read Lit
integer_at bytes =
    if is_at 40 bytes
    then (after_word (codes "(-") bytes >>= λ rest. negative_at rest)
    else (decimal_at (2 ^ 127 - 1) bytes >>= λ n. Ok (lit.Int (pos n.0), n.1))

-- a character, by its number
unfoldable pub character_at : List ℕ → Read Lit
character_at bytes =
    decimal_at 0x10FFFF bytes
    >>= λ n. if scalar n.0 then Ok (lit.Char n.0, n.1) else Err (length n.1)

abbrev pub literal_in : LiteralForm → List ℕ → Read Lit
literal_in form.Integer = integer_at
literal_in form.Char = character_at

abbrev pub literal_words : List (List ℕ × LiteralForm)
literal_words = (codes "Intc ", form.Integer) ∷ (codes "Charc ", form.Char) ∷ []

unfoldable pub literal_at : List ℕ → Read Lit
literal_at bytes = one_of literal_words bytes >>= λ form. literal_in form.0 form.1
