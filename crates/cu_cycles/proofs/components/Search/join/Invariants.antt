use Rattle.std.proofs.Common.{length}
use Rattle.cu_cycles.specs.Graph.{Graph}
use Rattle.cu_cycles.specs.Inside.Search.{MayJoin, OnlyParts}
use Rattle.cu_cycles.proofs.components.Search.join.Given as goal

abbrev pub invariant-loop-self : goal.invariant-loop-self
invariant-loop-self l = OnlyParts l.fn.self l.self × ((g : Graph) → MayJoin g l.fn.self l.at → MayJoin g l.self l.at)

abbrev pub decreases-loop-self : goal.decreases-loop-self
decreases-loop-self l = length l.self.parts.items
