use Rattle.std.proofs.Common.{◌≡◌, ◌-◌, length, map}
use Rattle.cu_prooftext.specs.Inside.Frames.{pattern_after, resume}
use Rattle.cu_prooftext.specs.Inside.FramesOf.{pattern_frame}
use Rattle.cu_prooftext.specs.Inside.Reading.{pattern_at}
use Rattle.cu_prooftext.proofs.reading_patterns.pattern_at.Given as goal

-- what is read on from here is what is read of all
abbrev pub invariant-loop-outer : goal.invariant-loop-outer
invariant-loop-outer l =
    resume pattern_after (l.levels - 1) (map pattern_frame l.outer.items) (pattern_at (l.levels - length l.outer.items) l.rest)
    ≡ pattern_at l.levels l.bytes

abbrev pub decreases-loop-outer : goal.decreases-loop-outer
decreases-loop-outer l = length l.rest
