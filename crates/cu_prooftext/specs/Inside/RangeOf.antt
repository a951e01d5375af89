-- The numbers of a range of the code.
use Rattle.std.specs.Prelude.{ℕ, ◌≤◌, ◌^◌, ◌<◌, Bool}
use Rattle.cu_prooftext.specs.declared.ranges.Range.{Range}
use Rattle.cu_prooftext.specs.declared.ranges.Range.TheVariants as range
use Rattle.cu_prooftext.specs.Inside.Ranges.{above, leads_above, leads_scalar, scalar}
use Rattle.cu_prooftext.specs.Inside.Reading.{at_most, between}

-- whether a number is in a range
abbrev pub fits_in : Range → ℕ → Bool
fits_in (range.UpTo most) = at_most most
fits_in (range.FromOne most) = between most
fits_in range.Scalars = scalar
fits_in (range.Above last) = above last

-- whether a number leads to one in a range
abbrev pub leads_in : Range → ℕ → Bool
leads_in (range.UpTo most) = at_most most
leads_in (range.FromOne most) = between most
leads_in range.Scalars = leads_scalar
leads_in (range.Above last) = leads_above last

-- a range has no number above 2 ^ 127
abbrev pub IsBounded : Range → Type 0
IsBounded (range.UpTo most) = most ≤ 2 ^ 127
IsBounded (range.FromOne most) = most ≤ 2 ^ 127
IsBounded range.Scalars = Unit {0}
IsBounded (range.Above last) = last < 2 ^ 32
