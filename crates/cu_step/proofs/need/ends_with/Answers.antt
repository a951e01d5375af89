-- There is a last frame, or none.
use Rattle.cu_step.proofs.FrameEnds.{ends_none, ends_some}
use Rattle.cu_step.proofs.need.ends_with.Goals as goal

pub returns-in-empty : goal.returns-in-empty
returns-in-empty c = ends_none c.args.id c.args.frames.now c.in-empty.len_below

pub returns-in-len1-up : goal.returns-in-len1-up
returns-in-len1-up c = ends_some c.args.id c.args.frames.now _ c.in-len1-up.len_at_least
