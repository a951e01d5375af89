use Rattle.std.proofs.Common.{◌≡◌, ◌-◌, length, map}
use Rattle.cu_prooftext.specs.Inside.Frames.{term_after, resume}
use Rattle.cu_prooftext.specs.Inside.FramesOf.{term_frame}
use Rattle.cu_prooftext.specs.Inside.Reading.{term_at}
use Rattle.cu_prooftext.proofs.reading_terms.term_at.Given as goal

-- what is read on from here is what is read of all
abbrev pub invariant-loop-outer : goal.invariant-loop-outer
invariant-loop-outer l =
    resume term_after (l.levels - 1) (map term_frame l.outer.items) (term_at (l.levels - length l.outer.items) l.rest)
    ≡ term_at l.levels l.bytes

abbrev pub decreases-loop-outer : goal.decreases-loop-outer
decreases-loop-outer l = length l.rest
