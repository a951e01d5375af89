-- The values of the goal variables so far were read.
use Rattle.std.proofs.Common.{take}
use Rattle.cu_step.specs.Inside.Written.{AllRead}
use Rattle.cu_step.proofs.read.read.Given as goal

abbrev pub invariant-loop-goal : goal.invariant-loop-goal
invariant-loop-goal g l =
    AllRead (g.S.Store.content l.store) l.limit (take l.goal-index l.goals) l.bindings.items l.reader.room l.reader.numbering.variables.keys
