-- The steps that are left give what all give.
use Rattle.std.proofs.Common.{◌-◌}
use Rattle.cu_step.specs.Outcome.{state_of}
use Rattle.cu_sets.proofs.RunLemmas.{Runs}
use Rattle.cu_sets.proofs.runs.run.Given as goal

abbrev pub invariant-steps : goal.invariant-steps
invariant-steps g l = Runs l.program l.limits (state_of g.S.Store.content l.fn.branch) (l.stride - 1) (state_of g.S.Store.content l.branch) l.more

abbrev pub decreases-steps : goal.decreases-steps
decreases-steps g l = l.more
