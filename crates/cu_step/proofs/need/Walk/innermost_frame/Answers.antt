-- There is a last frame, or none.
use Rattle.std.proofs.Common.{◌∙◌, sym}
use Rattle.cu_step.proofs.Innermost.{innermost_of}
use Rattle.cu_step.proofs.FrameEnds.{nothing}
use Rattle.cu_step.proofs.need.Walk.innermost_frame.Goals as goal

pub returns-in-empty-clause-none : goal.returns-in-empty-clause-none
returns-in-empty-clause-none c = sym c.as_slice.ensures.value ∙ nothing c.as_slice.result.now c.in-empty.len_below

pub returns-in-len1-up-clause-some : goal.returns-in-len1-up-clause-some
returns-in-len1-up-clause-some c = innermost_of c.args.self.now c.as_slice.result.now _ c.as_slice.ensures.value c.in-len1-up.len_at_least
