use Rattle.std.proofs.Common.{◌≡◌, ◌<◌, ℕ, Some, length, map, slice_get}
use Rattle.cu_types.proofs.reader.Reader.functions.Given as goal
use Rattle.cu_types.specs.BuiltInTypes.{arrows}
use Rattle.cu_types.specs.Inside.Reading.{IsReader, Reads, shapes}
use Rattle.cu_types.specs.Table.{at, trees}

abbrev pub decreases-loop-argument : goal.decreases-loop-argument
decreases-loop-argument l = length l.left.items

-- what is left, before what was made, gives the whole
abbrev pub invariant-loop-argument : goal.invariant-loop-argument
invariant-loop-argument l = record {
  reader : IsReader l.self;
  within : (k a : ℕ) → slice_get l.left.items k ≡ Some a → a < length (shapes l.initial.self);
  read : Reads (shapes l.initial.self) (shapes l.self) (at (trees (shapes l.self)) l.whole) l.whole;
  gives : arrows (map (at (trees (shapes l.initial.self))) l.left.items) (at (trees (shapes l.self)) l.whole)
      ≡ arrows (map (at (trees (shapes l.initial.self))) l.fn.arguments.items) (at (trees (shapes l.initial.self)) l.fn.value);
}
