-- Marks of the indices that were changed.
use Rattle.std.specs.Prelude.{◌≡◌, ℕ, ◌/◌, ◌%◌, Bool, true, ◌&&◌, ◌==◌, List}
use Rattle.std.specs.List.{All}
use Rattle.std.specs.Int.{bit_at}
use Rattle.cu_frozen.specs.declared.marks.Marks.{Marks}
use Rattle.cu_frozen.specs.Layers.{IsWhole, Layer}

-- whether an index may be among those that were added to the marks: both its bits are set
abbrev pub may_have : Marks → ℕ → Bool
may_have marks id = (bit_at marks.first (id % 64) == 1) && (bit_at marks.second (id / 64 % 64) == 1)

-- The marks have all these indices.
abbrev pub HaveAll : Marks → List ℕ → Type 0
HaveAll marks ids = All (λ id. may_have marks id ≡ true) ids

-- A segment's layer fits a graph of its size, and its marks have all indices that it changes.
pub record IsMarked (marks : Marks) (layer : Layer) : Type 0 where
  pub whole : IsWhole layer
  pub marked : HaveAll marks layer.changed
