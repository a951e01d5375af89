use Rattle.std.proofs.Common.{◌≡◌, ℕ, ◌<◌, length, get_or}
use Rattle.cu_types.proofs.classes.Classes.representatives.Given as goal
use Rattle.cu_types.specs.Inside.Classes.{IsForest, Represents}

abbrev pub invariant-loop-node : goal.invariant-loop-node
invariant-loop-node l = record {
  sized : length l.self.parents.items ≡ length l.initial.self.parents.items;
  forest : IsForest l.self.parents.items l.self.ranks.items;
  count : length l.found.items ≡ l.node;
  class : (class : ℕ → ℕ) → Represents l.initial.self.parents.items class
      → Represents l.self.parents.items class × ((k : ℕ) → k < l.node → get_or l.found.items k 0 ≡ class k);
}
