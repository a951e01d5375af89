-- What the lines of a listing come to: how many there are before the last one, and the sum of the
-- numbers among them.
use Rattle.std.specs.Prelude.{
  ◌+◌,
  ◌+ℤ◌,
  ◌^◌,
  ◌&&◌,
  Bool,
  if◌then◌else◌,
  ℤ,
  pos,
  int_le,
  int_lt,
  List,
  [],
  ◌∷◌,
}
use Rattle.cu_calculus.specs.declared.Lit.TheVariants.{Int}
use Rattle.cu_calculus.specs.Value.{Value, Literal}
use Rattle.cu_machine.specs.Listing.{Answered, Line, Listing, Waiting}
use Rattle.cu_machine.specs.Next.{Reading}
use Rattle.cu_search.specs.declared.totals.Totals.{Totals}

-- what no lines come to
abbrev pub no_lines : Totals
no_lines = record { lines = 0; sum = pos 0 }

-- whether a number has one to ten digits and no sign
abbrev pub is_short : ℤ → Bool
is_short n = int_le (pos 0) n && int_lt n (pos (10 ^ 10))

-- what a number adds to the sum: itself, where it has one to ten digits and no sign
abbrev pub number_addend : ℤ → ℤ
number_addend n = if is_short n then n else pos 0

-- what a value that stands alone in its line adds to the sum
abbrev pub value_addend : Value → ℤ
value_addend (Literal (Int n)) = number_addend n
value_addend value = pos 0

-- What a value in a line with these bindings adds to the sum. A line that shows bindings adds
-- nothing.
abbrev pub bound_addend : List Value → Value → ℤ
bound_addend [] value = value_addend value
bound_addend (bound ∷ others) value = pos 0

-- what an answer adds to the sum
abbrev pub addend : Reading → ℤ
addend reading = bound_addend reading.bindings reading.value

-- what lines come to with that of one answer more
abbrev pub and_answer : Totals → Reading → Totals
and_answer totals reading =
    record { lines = totals.lines + 1; sum = totals.sum +ℤ addend reading }

-- what lines come to with that of one waiting branch more
abbrev pub and_wait : Totals → Totals
and_wait totals = record { lines = totals.lines + 1; sum = totals.sum }

-- what lines come to with one line more
abbrev pub and_line : Totals → Line → Totals
and_line totals (Answered d reading) = and_answer totals reading
and_line totals (Waiting d names) = and_wait totals

-- what lines come to with these lines more
abbrev pub and_lines : Totals → List Line → Totals
and_lines totals [] = totals
and_lines totals (line ∷ lines) = and_lines (and_line totals line) lines

-- what all lines of a listing before the last one come to
abbrev pub totals_of : Listing → Totals
totals_of listing = and_lines no_lines listing.lines
