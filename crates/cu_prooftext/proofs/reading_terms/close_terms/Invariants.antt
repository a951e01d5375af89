use Rattle.std.proofs.Common.{◌≡◌, ◌-◌, ◌≤◌, Ok, length, map, vec_len}
use Rattle.cu_kernel.specs.TermsOf.{term_of}
use Rattle.cu_prooftext.specs.Inside.Frames.{term_after, resume}
use Rattle.cu_prooftext.specs.Inside.FramesOf.{term_frame}
use Rattle.cu_prooftext.proofs.reading_terms.close_terms.Given as goal

-- what is read on from here is what is read on from the first one
abbrev pub invariant-loop-around : goal.invariant-loop-around
invariant-loop-around l =
    (resume term_after (l.levels - 1) (map term_frame l.outer.items) (Ok (term_of l.term, l.rest))
    ≡ resume term_after (l.levels - 1) (map term_frame l.fn.outer.items) (Ok (term_of l.fn.read, l.fn.bytes)))
    × (length l.rest ≤ length l.fn.bytes)

abbrev pub decreases-loop-around : goal.decreases-loop-around
decreases-loop-around l = vec_len l.outer
