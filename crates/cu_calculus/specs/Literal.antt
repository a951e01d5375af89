-- The literals of the language: integers within its range, and Unicode scalars.
use Rattle.std.specs.Prelude.{ℕ, Bool, false, ◌&&◌, ◌||◌, nat_eq, nat_le, nat_lt}
use Rattle.std.specs.Ordering.{int_eq}
use Rattle.cu_int.specs.Integers.{is_integer}
use Rattle.cu_calculus.specs.declared.Lit.{Lit}
use Rattle.cu_calculus.specs.declared.Lit.TheVariants.{Char, Int}

-- whether a number is a Unicode scalar: below 0x110000, and no surrogate
abbrev pub is_scalar : ℕ → Bool
is_scalar n = nat_lt n 0xD800 || (nat_le 0xE000 n && nat_lt n 0x110000)

-- whether a literal is one of the language
abbrev pub is_literal : Lit → Bool
is_literal (Int n) = is_integer n
is_literal (Char c) = is_scalar c

-- whether two literals are the same
abbrev pub same_literal : Lit → Lit → Bool
same_literal (Int m) (Int n) = int_eq m n
same_literal (Char m) (Char n) = nat_eq m n
same_literal _ _ = false
