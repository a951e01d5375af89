use Rattle.cu_cycles.specs.Graph.{rows_in}
use Rattle.cu_cycles.specs.Inside.Search.{IsGood, Meets, work}
use Rattle.cu_cycles.proofs.components.Search.run.Given as goal

abbrev pub invariant-loop-part : goal.invariant-loop-part
invariant-loop-part l = IsGood (rows_in l.graph) l.self × Meets l.fn.self l.self

abbrev pub decreases-loop-part : goal.decreases-loop-part
decreases-loop-part l = work (rows_in l.graph) l.self
