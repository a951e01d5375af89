use Rattle.std.proofs.Common.{◌≡◌, map}
use Rattle.cu_crwl.specs.Meaning.{claim_of}
use Rattle.cu_prooftext.specs.Inside.Lines.{claim_at}
use Rattle.cu_prooftext.specs.Inside.Loops.{with_front}
use Rattle.cu_prooftext.specs.Inside.Readers.{many}
use Rattle.cu_prooftext.proofs.lines.claim_lines.Given as goal

-- the claims so far and those that are left are all
abbrev pub invariant-loop-left : goal.invariant-loop-left
invariant-loop-left l =
    with_front (map claim_of l.claims.items) (many claim_at l.left l.rest) ≡ many claim_at l.count l.bytes

abbrev pub decreases-loop-left : goal.decreases-loop-left
decreases-loop-left l = l.left
