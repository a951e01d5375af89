-- The integers of the language, and division rounded towards minus infinity (Curry Report, the
-- Prelude's div and mod).
use Rattle.std.specs.Prelude.{◌-◌, ◌^◌, Bool, not, ◌&&◌, ◌||◌, Option, None, Some, if◌then◌else◌, ℤ, pos, negsuc, ◌+ℤ◌, ◌-ℤ◌, int_le, int_lt, int_div, int_rem}

-- whether a number is an integer of the language: 128 bits hold it with its sign
abbrev pub is_integer : ℤ → Bool
is_integer n = int_le (negsuc (2 ^ 127 - 1)) n && int_le n (pos (2 ^ 127 - 1))

-- a number, where it is an integer of the language
abbrev pub checked : ℤ → Option ℤ
checked n = if is_integer n then Some n else None

abbrev pub is_negative : ℤ → Bool
is_negative n = int_lt n (pos 0)

-- Whether division towards zero leaves a rest whose sign isn't the divisor's. Rounded towards minus
-- infinity, the quotient is then one less, and the rest is greater by the divisor.
abbrev pub is_uneven : ℤ → ℤ → Bool
is_uneven m n = let rest = int_rem m n in (is_negative rest && not (is_negative n))
    || (int_lt (pos 0) rest && is_negative n)

abbrev pub floor_quotient : ℤ → ℤ → ℤ
floor_quotient m n = if is_uneven m n then int_div m n -ℤ pos 1 else int_div m n

abbrev pub floor_rest : ℤ → ℤ → ℤ
floor_rest m n = if is_uneven m n then int_rem m n +ℤ n else int_rem m n
