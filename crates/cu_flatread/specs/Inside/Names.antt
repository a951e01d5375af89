-- The reading of quoted names and entities.
use Rattle.std.specs.Prelude.{ℕ, zero, suc, Bool, false, ◌&&◌, List, [], ◌∷◌, ◌++◌, Option, None, Some, Ok, Err, codes, if◌then◌else◌, length, nat_eq, nat_le, nat_lt}
use Rattle.cu_flatread.specs.Inside.Words.{Read, ◌>>=◌, after_word}
use Rattle.cu_flatread.specs.Notation.{Entity}
use Rattle.cu_flatread.specs.declared.quoted.Pending.{Pending}
use Rattle.cu_flatread.specs.declared.quoted.Within.{Within}
use Rattle.cu_flatread.specs.declared.quoted.Within.TheVariants as within

-- what comes after the first byte of a character of more than one byte (The Unicode Standard, table
-- 3-7)
abbrev pub after_first : ℕ → Option Pending
after_first b =
    if nat_lt b 0xC2 then None
    else if nat_le b 0xDF then Some (record { low = 0x80; high = 0xBF; more = 0 })
    else if nat_eq b 0xE0 then Some (record { low = 0xA0; high = 0xBF; more = 1 })
    else if nat_eq b 0xED then Some (record { low = 0x80; high = 0x9F; more = 1 })
    else if nat_le b 0xEF then Some (record { low = 0x80; high = 0xBF; more = 1 })
    else if nat_eq b 0xF0 then Some (record { low = 0x90; high = 0xBF; more = 2 })
    else if nat_le b 0xF3 then Some (record { low = 0x80; high = 0xBF; more = 2 })
    else if nat_eq b 0xF4 then Some (record { low = 0x80; high = 0x8F; more = 2 })
    else None

-- where it is read after a byte inside a character
abbrev pub after_part : ℕ → Within
after_part zero = within.Between
after_part (suc more) = within.Inside (record { low = 0x80; high = 0xBF; more = more })

abbrev pub begun_by : Option Pending → Option Within
begun_by None = None
begun_by (Some pending) = Some (within.Inside pending)

-- what begins with a byte between characters
abbrev pub begun : ℕ → Option Within
begun b =
    if nat_eq b 92 then Some within.Escaped
    else if nat_lt b 128 then Some within.Between
    else begun_by (after_first b)

-- where it is read after a byte, if that may come
abbrev pub after_byte : Within → ℕ → Option Within
after_byte within.Between b = begun b
after_byte within.Escaped b = if nat_eq b 92 then Some within.Between else None
after_byte (within.Inside pending) b =
    if nat_le pending.low b && nat_le b pending.high then Some (after_part pending.more) else None

-- whether the text ends with this byte
abbrev pub ends : Within → ℕ → Bool
ends within.Between b = nat_eq b 34
ends _ b = false

-- what a byte adds to the text: a backslash counts once
abbrev pub added : Within → ℕ → List ℕ
added within.Between b = if nat_eq b 92 then [] else b ∷ []
added _ b = b ∷ []

-- bytes before those of a text
abbrev pub with_front : List ℕ → Read (List ℕ) → Read (List ℕ)
with_front front read = read >>= λ text. Ok (front ++ text.0, text.1)

-- a text up to the closing quote
abbrev pub text_from : Option Within → ℕ → (Within → Read (List ℕ)) → Read (List ℕ)
text_from None left rest = Err left
text_from (Some next) left rest = rest next

unfoldable pub text_at : Within → List ℕ → Read (List ℕ)
text_at place [] = Err 0
text_at place (b ∷ bytes) =
    if ends place b then Ok ([], bytes)
    else text_from (after_byte place b) (suc (length bytes))
    (λ next. with_front (added place b) (text_at next bytes))

-- a text in quotes
unfoldable pub quoted_at : List ℕ → Read (List ℕ)
quoted_at bytes = after_word (codes "\"") bytes >>= λ rest. text_at within.Between rest

unfoldable pub entity_at : List ℕ → Read Entity
entity_at bytes =
    after_word (codes "(") bytes >>= λ a. quoted_at a >>= λ owner. after_word (codes ",") owner.1
    >>= λ b. quoted_at b >>= λ name. after_word (codes ")") name.1
    >>= λ rest. Ok (record { owner = owner.0; name = name.0 }, rest)
