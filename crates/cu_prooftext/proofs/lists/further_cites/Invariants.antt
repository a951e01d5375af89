use Rattle.std.proofs.Common.{◌≡◌, length}
use Rattle.cu_prooftext.specs.Inside.Lines.{further_cites}
use Rattle.cu_prooftext.specs.Inside.Loops.{with_front}
use Rattle.cu_prooftext.proofs.lists.further_cites.Given as goal

-- the numbers so far and those that are left are all
abbrev pub invariant-loop-after : goal.invariant-loop-after
invariant-loop-after l =
    with_front l.cites.items (further_cites l.last l.rest) ≡ with_front l.fn.front.items (further_cites l.last l.fn.bytes)

abbrev pub decreases-loop-after : goal.decreases-loop-after
decreases-loop-after l = length l.rest
