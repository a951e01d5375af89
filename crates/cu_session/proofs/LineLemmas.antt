-- Lines, and the bytes before their LF.
use Rattle.std.proofs.Common.{◌≡◌, ℕ, suc, ◌<◌, ◌==◌, true, false, List, [], ◌∷◌, ◌++◌, length, refl, ap, subst, arith, length-append, le-ltb, lt-ltb}
use Rattle.std.proofs.lemmas.Bool.{ne_eqb}
use Rattle.cu_session.specs.Inside.Parts.{HasNoLf, IsBegun}
use Rattle.cu_session.specs.Lines.{Line, has_long_line, is_too_long, lines_of, max_line_bytes, onto}

-- bytes that an LF ended, as a line
abbrev pub with_lf : List ℕ → Line
with_lf bytes = record { bytes = bytes; is_ended = true }

-- bytes of a last line without LF
abbrev pub without_lf : List ℕ → Line
without_lf bytes = record { bytes = bytes; is_ended = false }

-- a line and its LF before a text
pub lines_end : (line rest : List ℕ) → HasNoLf line → lines_of (line ++ 10 ∷ rest) ≡ with_lf line ∷ lines_of rest
unfolding lines_of
lines_end [] rest h = refl
lines_end (byte ∷ bytes) rest h = rw (h.0, lines_end bytes rest h.1) refl

-- a last line without LF
pub lines_last : (byte : ℕ) (bytes : List ℕ) → HasNoLf (byte ∷ bytes) → lines_of (byte ∷ bytes) ≡ without_lf (byte ∷ bytes) ∷ []
unfolding lines_of
lines_last byte [] h = rw h.0 refl
lines_last byte (next ∷ bytes) h = rw (h.0, lines_last next bytes h.1) refl

-- the first line of a text, and the lines after it
pub record StartsLong (lines : List Line) (least : ℕ) : Type 0 where
  pub first : Line
  pub others : List Line
  pub are : lines ≡ first ∷ others
  pub long : least < length first.bytes

onto_starts : (byte : ℕ) (lines : List Line) → StartsLong (onto byte lines) 0
onto_starts byte [] = record { first = without_lf (byte ∷ []); others = []; are = refl; long = omega arith }
onto_starts byte (line ∷ lines) = record { first = record { bytes = byte ∷ line.bytes; is_ended = line.is_ended }; others = lines; are = refl; long = omega arith }

-- a byte before the bytes of a line that starts so
more_starts : (byte least : ℕ) (lines : List Line) → StartsLong lines least → StartsLong (onto byte lines) (suc least)
more_starts byte least lines h =
    record { first = record { bytes = byte ∷ h.first.bytes; is_ended = h.first.is_ended }; others = h.others; are = ap (onto byte) h.are; long = omega (arith, h.long) }

-- a byte that isn't an LF is of the line before it
pub lines_long : (line : List ℕ) (byte : ℕ) (rest : List ℕ) → HasNoLf line → (byte == 10) ≡ false → StartsLong (lines_of (line ++ byte ∷ rest)) (length line)
unfolding lines_of
lines_long [] byte rest h other = rw other (onto_starts byte (lines_of rest))
lines_long (first ∷ bytes) byte rest h other =
    rw h.0 (more_starts first (length bytes) (lines_of (bytes ++ byte ∷ rest)) (lines_long bytes byte rest h.1 other))

no_lf_more : (line : List ℕ) (byte : ℕ) → HasNoLf line → (byte == 10) ≡ false → HasNoLf (line ++ byte ∷ [])
no_lf_more [] byte h other = (other, tt)
no_lf_more (first ∷ bytes) byte h other = (h.0, no_lf_more bytes byte h.1 other)

pub begun_nothing : IsBegun []
begun_nothing = record { no_lf = tt; fits = omega arith }

pub begun_more : (line : List ℕ) (byte : ℕ) → IsBegun line → (byte == 10) ≡ false → length line < max_line_bytes → IsBegun (line ++ byte ∷ [])
begun_more line byte h other below =
    record { no_lf = no_lf_more line byte h.no_lf other; fits = rw length-append (omega (arith, below)) }

-- what has come of a line isn't too long, whether its LF comes or not
pub fits_with_lf : (line : List ℕ) → IsBegun line → is_too_long (with_lf line) ≡ false
fits_with_lf line h = le-ltb max_line_bytes (length line) h.fits

pub fits_without_lf : (line : List ℕ) → IsBegun line → is_too_long (without_lf line) ≡ false
fits_without_lf line h = le-ltb max_line_bytes (length line) h.fits

-- a line that is ended is none that is too long
pub ended_long : (line rest : List ℕ) → IsBegun line → has_long_line rest ≡ has_long_line (line ++ 10 ∷ rest)
ended_long line rest h = rw (lines_end line rest h.no_lf, fits_with_lf line h) refl

-- a byte that isn't an LF after a line that is full
pub full_long : (line : List ℕ) (byte : ℕ) (rest : List ℕ) → IsBegun line → (byte == 10) ≡ false → length line ≡ max_line_bytes
    → (first : Line) × (others : List Line) × (lines_of (line ++ byte ∷ rest) ≡ first ∷ others) × (is_too_long first ≡ true)
full_long line byte rest h other full =
    let long = lines_long line byte rest h.no_lf other in
    (long.first, long.others, long.are, lt-ltb max_line_bytes (length long.first.bytes) (subst (λ (n : ℕ). n < length long.first.bytes) full long.long))

pub full_has_long : (line : List ℕ) (byte : ℕ) (rest : List ℕ) → IsBegun line → (byte == 10) ≡ false → length line ≡ max_line_bytes → has_long_line (line ++ byte ∷ rest) ≡ true
full_has_long line byte rest h other full =
    let long = full_long line byte rest h other full in
    rw (long.2, long.3) refl

nothing_long : has_long_line [] ≡ false
unfolding lines_of
nothing_long = refl

-- the text of a last line has no line that is too long
pub last_long : (line : List ℕ) → IsBegun line → has_long_line line ≡ false
last_long [] h = nothing_long
last_long (byte ∷ bytes) h = rw (lines_last byte bytes h.no_lf, fits_without_lf (byte ∷ bytes) h) refl

pub is_other : (byte : ℕ) → (byte ≡ 10 → ⊥) → (byte == 10) ≡ false
is_other byte other = ne_eqb byte 10 other
