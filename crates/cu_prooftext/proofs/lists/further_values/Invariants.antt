use Rattle.std.proofs.Common.{◌≡◌, length}
use Rattle.cu_prooftext.specs.Inside.Lines.{further_values}
use Rattle.cu_prooftext.specs.Inside.Loops.{with_front}
use Rattle.cu_prooftext.proofs.lists.further_values.Given as goal

-- the values so far and those that are left are all
abbrev pub invariant-loop-after : goal.invariant-loop-after
invariant-loop-after l =
    with_front l.values.items (further_values l.rest) ≡ with_front l.fn.front.items (further_values l.fn.bytes)

abbrev pub decreases-loop-after : goal.decreases-loop-after
decreases-loop-after l = length l.rest
