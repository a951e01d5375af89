use Rattle.std.proofs.Common.{◌≡◌, None, length}
use Rattle.cu_prooftext.specs.Inside.RangeOf.{fits_in, leads_in}
use Rattle.cu_prooftext.specs.Inside.Readers.{digits_at}
use Rattle.cu_prooftext.proofs.numbers.number_at.Given as goal

-- what is read from here on is what is read of all
abbrev pub invariant-loop-rest : goal.invariant-loop-rest
invariant-loop-rest l =
    digits_at (leads_in l.range) (fits_in l.range) l.number l.rest
    ≡ digits_at (leads_in l.range) (fits_in l.range) None l.bytes

abbrev pub decreases-loop-rest : goal.decreases-loop-rest
decreases-loop-rest l = length l.rest
