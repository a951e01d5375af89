-- What the asker that counts answers.
use Rattle.std.specs.Prelude.{ℕ, ◌+◌, ◌==◌, Bool, false, if◌then◌else◌, List, [], ◌∷◌, Option, None, Some, min, slice_get}
use Rattle.cu_session.specs.declared.asker.Turn.TheVariants.{Go, Quit}
use Rattle.cu_session.specs.Answers.{Answer}

-- whether a byte, if there is one, is `q`
abbrev pub is_q : Option ℕ → Bool
is_q None = false
is_q (Some byte) = byte == 113

-- the answer of a counter: nothing to a line that begins with `q`, which is the last, and its digit
-- on a line to any other
abbrev pub counted : ℕ → List ℕ → Answer ℕ
counted digit line = if is_q (slice_get line 0)
    then record { reply = []; turn = Quit; after = digit }
    else record { reply = digit ∷ 10 ∷ []; turn = Go; after = min (digit + 1) 255 }
