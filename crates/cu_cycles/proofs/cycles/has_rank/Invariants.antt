use Rattle.std.proofs.Common.{◌≡◌, ◌<◌, ℕ, Some, slice_get}
use Rattle.cu_cycles.proofs.cycles.has_rank.Given as goal

-- none of those before has the number
abbrev pub invariant-loop-node : goal.invariant-loop-node
invariant-loop-node l = (k v : ℕ) → k < l.node-index → slice_get l.nodes k ≡ Some v → slice_get l.ranks v ≡ Some l.rank → ⊥
