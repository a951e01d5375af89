use Rattle.std.proofs.Common.{◌≡◌, ℕ, ◌<◌, length, get_or}
use Rattle.cu_types.proofs.classes.Classes.new.Given as goal

-- each number so far is its own parent
abbrev pub invariant-loop-node : goal.invariant-loop-node
invariant-loop-node l = record {
  parents : length l.parents.items ≡ l.node;
  ranks : length l.ranks.items ≡ l.node;
  low : (k : ℕ) → k < l.node → get_or l.ranks.items k 0 ≡ 0;
  alone : (k : ℕ) → k < l.node → get_or l.parents.items k 0 ≡ k;
}
