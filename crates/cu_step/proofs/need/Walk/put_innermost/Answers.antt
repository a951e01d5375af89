-- Another frame is in the place of the last one.
use Rattle.std.proofs.Common.{◌∙◌}
use Rattle.cu_step.proofs.Innermost.{innermost_put}
use Rattle.cu_step.proofs.need.Walk.put_innermost.Goals as goal

pub returns : goal.returns
returns c = innermost_put c.args.self.now c.len-last.result c.args.frame (c.len-last.ensures ∙ c.args.self.now.frames.ok.0) c.requires
