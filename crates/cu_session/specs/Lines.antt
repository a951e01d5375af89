-- The lines of a text.
use Rattle.std.specs.Prelude.{ℕ, ◌-◌, ◌==◌, Bool, true, false, if◌then◌else◌, List, [], ◌∷◌, Option, None, Some, length, nat_lt, slice_get, take}
use Rattle.std.specs.List.{list_any}

-- the most bytes of a line, a CR counted and the LF not
abbrev pub max_line_bytes : ℕ
max_line_bytes = 1048576

-- a line of a text: its bytes without the LF, and whether an LF ended it
pub record Line : Type 0 where
  pub bytes : List ℕ
  pub is_ended : Bool

-- the lines with one more byte at the start of the first
abbrev pub onto : ℕ → List Line → List Line
onto byte [] = record { bytes = byte ∷ []; is_ended = false } ∷ []
onto byte (line ∷ lines) =
    record { bytes = byte ∷ line.bytes; is_ended = line.is_ended } ∷ lines

-- The lines of a text. Each ends at an LF; a last one without LF has a byte.
unfoldable pub lines_of : List ℕ → List Line
lines_of [] = []
lines_of (byte ∷ bytes) = if byte == 10
    then record { bytes = []; is_ended = true } ∷ lines_of bytes
    else onto byte (lines_of bytes)

-- whether a byte, if there is one, is a CR
abbrev pub is_cr : Option ℕ → Bool
is_cr None = false
is_cr (Some byte) = byte == 13

-- bytes without the CR at their end, if there is one
abbrev pub without_cr : List ℕ → List ℕ
without_cr bytes =
    if is_cr (slice_get bytes (length bytes - 1)) then take (length bytes - 1) bytes else bytes

-- What a line says: its bytes, without the CR before its LF, if there is one. A CR at the end of a
-- last line without LF is of what it says.
abbrev pub content : Line → List ℕ
content line = if line.is_ended then without_cr line.bytes else line.bytes

-- whether a line is too long
abbrev pub is_too_long : Line → Bool
is_too_long line = nat_lt max_line_bytes (length line.bytes)

-- whether one of the lines of a text is too long
abbrev pub has_long_line : List ℕ → Bool
has_long_line text = list_any is_too_long (lines_of text)
