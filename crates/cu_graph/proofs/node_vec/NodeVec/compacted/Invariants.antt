-- The nodes that were copied are a prefix of all of them.
use Rattle.std.proofs.Common.{◌≡◌, take}
use Rattle.cu_graph.proofs.node_vec.NodeVec.compacted.Given as goal

abbrev pub invariant-loop-index : goal.invariant-loop-index
invariant-loop-index l = l.copy ≡ take l.index l.self
