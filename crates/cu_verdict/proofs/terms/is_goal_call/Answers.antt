use Rattle.cu_kernel.specs.KernelOf.{goal_meaning}
use Rattle.cu_verdict.proofs.CallLaws.{no_whole}
use Rattle.cu_verdict.proofs.terms.is_goal_call.Goals as goal

pub returns-in_default : goal.returns-in_default
returns-in_default c = no_whole (goal_meaning c.args.goal.now) c.args.term.now c.in_default.not-Whole
