-- The last frame is taken off.
use Rattle.std.proofs.Common.{vec_len}
use Rattle.cu_step.proofs.Innermost.{innermost_off}
use Rattle.cu_step.proofs.need.Walk.drop_innermost.Goals as goal

pub returns : goal.returns
returns c = innermost_off c.args.self.now c.pop.new.self.items (vec_len c.args.self.now.frames) c.pop.ensures.rest c.args.self.now.frames.ok.0
