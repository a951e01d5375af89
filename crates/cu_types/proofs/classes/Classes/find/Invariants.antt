use Rattle.std.proofs.Common.{◌≡◌, ℕ, ◌<◌, ◌-◌, length, get_or}
use Rattle.cu_types.proofs.classes.Classes.find.Given as goal
use Rattle.cu_types.specs.Inside.Classes.{IsForest, Represents, is_root}

abbrev pub invariant-loop-at : goal.invariant-loop-at
invariant-loop-at l = record {
  sized : length l.self.parents.items ≡ length l.initial.self.parents.items;
  within : l.at < length l.self.parents.items;
  forest : IsForest l.self.parents.items l.self.ranks.items;
  roots : (k : ℕ) → is_root l.self.parents.items k ≡ is_root l.initial.self.parents.items k;
  class : (class : ℕ → ℕ) → Represents l.initial.self.parents.items class
      → Represents l.self.parents.items class × (class l.at ≡ class l.node);
}

abbrev pub decreases-loop-at : goal.decreases-loop-at
decreases-loop-at l = 256 - get_or l.self.ranks.items l.at 0
