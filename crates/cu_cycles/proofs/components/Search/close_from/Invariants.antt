use Rattle.std.proofs.Common.{length}
use Rattle.cu_cycles.specs.Inside.Search.{Closes}
use Rattle.cu_cycles.proofs.components.Search.close_from.Given as goal

abbrev pub invariant-loop-self : goal.invariant-loop-self
invariant-loop-self l = Closes l.start l.fn.self l.self

abbrev pub decreases-loop-self : goal.decreases-loop-self
decreases-loop-self l = length l.self.path.items
