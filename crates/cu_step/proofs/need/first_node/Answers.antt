-- There is a first frame, or none.
use Rattle.cu_step.proofs.FrameEnds.{first_none, first_some}
use Rattle.cu_step.proofs.need.first_node.Goals as goal

pub returns-in-empty : goal.returns-in-empty
returns-in-empty c = first_none c.args.place c.args.frames.now c.in-empty.len_below

pub returns-in-len1-up : goal.returns-in-len1-up
returns-in-len1-up c = first_some c.args.place c.args.frames.now _ c.in-len1-up.len_at_least
