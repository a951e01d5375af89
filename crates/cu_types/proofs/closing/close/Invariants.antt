use Rattle.std.proofs.Common.{◌≡◌, ℕ, List, length, map}
use Rattle.cu_types.proofs.closing.close.Given as goal
use Rattle.cu_types.specs.Inside.Classes.{IsForest}
use Rattle.cu_types.specs.Inside.Closing.{Each, IsClosing, IsWithin, PairIsEqual, debt}
use Rattle.cu_types.specs.Table.{shape_of, trees}
use Rattle.cu_types.specs.Unification.{Equation}

abbrev pub invariant-loop-pair : goal.invariant-loop-pair
invariant-loop-pair l = record {
  sized : length l.classes.parents.items ≡ length l.nodes;
  forest : IsForest l.classes.parents.items l.classes.ranks.items;
  within : Each (IsWithin (length l.nodes)) l.pending.items;
  closing : (equations : List Equation) → Each (PairIsEqual equations (trees (map shape_of l.nodes))) l.initial.pending.items
      → (class : ℕ → ℕ) × IsClosing equations (map shape_of l.nodes) l.initial.pending.items l.pending.items l.classes.parents.items class;
}

abbrev pub decreases-loop-pair : goal.decreases-loop-pair
decreases-loop-pair l = debt (map shape_of l.nodes) l.pending.items l.classes.parents.items
