use Rattle.std.proofs.Common.{◌≡◌, ℕ, ◌-◌, ◌≤◌, Ok, length, map, vec_len}
use Rattle.cu_kernel.specs.TermsOf.{pattern_of}
use Rattle.cu_prooftext.specs.Inside.Frames.{pattern_after, resume}
use Rattle.cu_prooftext.specs.Inside.FramesOf.{pattern_frame}
use Rattle.cu_prooftext.proofs.reading_patterns.close_patterns.Given as goal

-- what is read on from here is what is read on from the first one
abbrev pub invariant-loop-around : goal.invariant-loop-around
invariant-loop-around l =
    ((levels : ℕ) → resume pattern_after (levels - 1) (map pattern_frame l.outer.items) (Ok (pattern_of l.pattern, l.rest))
    ≡ resume pattern_after (levels - 1) (map pattern_frame l.fn.outer.items) (Ok (pattern_of l.fn.read, l.fn.bytes)))
    × (length l.rest ≤ length l.fn.bytes)

abbrev pub decreases-loop-around : goal.decreases-loop-around
decreases-loop-around l = vec_len l.outer
