-- The ranges of the numbers of a text, and which numbers are first digits of some in a range.
use Rattle.std.specs.Prelude.{ℕ, zero, suc, ◌+◌, ◌*◌, Bool, false, ◌&&◌, ◌||◌, if◌then◌else◌, nat_le, nat_lt}

-- whether a number is above x, and has 32 bits
abbrev pub above : ℕ → ℕ → Bool
above x n = nat_lt x n && nat_le n 4294967295

-- Whether one of the numbers from low to high, or one of which these are the first digits, is above
-- x and has 32 bits.
abbrev pub leads_up : ℕ → ℕ → ℕ → ℕ → Bool
leads_up zero x low high = false
leads_up (suc fuel) x low high =
    if nat_lt x high then nat_le low 4294967295 else leads_up fuel x (low * 10) (high * 10 + 9)

-- whether a number leads to one above x that has 32 bits
abbrev pub leads_above : ℕ → ℕ → Bool
leads_above x n = nat_lt 0 n && leads_up (suc (suc x)) x n n

-- whether a number is a scalar
abbrev pub scalar : ℕ → Bool
scalar n = nat_lt n 0xD800 || (nat_le 0xE000 n && nat_lt n 0x110000)

-- whether a number leads to a scalar
abbrev pub leads_scalar : ℕ → Bool
leads_scalar n = nat_le n 0x10FFFF
