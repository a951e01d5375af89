use Rattle.cu_lift.specs.Groups.{lists_of}
use Rattle.cu_types.proofs.group.Inference.all.Given as goal
use Rattle.cu_types.specs.Inside.Grouping.{IsKnown}

abbrev pub invariant-loop-group : goal.invariant-loop-group
invariant-loop-group l = IsKnown l.self.program.now (lists_of l.groups) l.group-index l.known
