-- What is left of the searches, and the way that goes on, come to the step of the branch.
use Rattle.std.proofs.Common.{◌+◌}
use Rattle.cu_step.specs.Outcome.{state_of}
use Rattle.cu_sets.specs.Inside.Frames.{frames_size, turn_size}
use Rattle.cu_sets.proofs.FrameLemmas.{Stands}
use Rattle.cu_sets.proofs.searches.advance_level.Given as goal

abbrev pub invariant-turns : goal.invariant-turns
invariant-turns g l =
    let content = g.S.Store.content in
    Stands content l.program l.limits (state_of content l.fn.branch) l.frames.items l.turn

abbrev pub decreases-turns : goal.decreases-turns
decreases-turns g l = frames_size g.S.Store.content l.frames.items + turn_size g.S.Store.content l.turn
