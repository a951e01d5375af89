use Rattle.std.proofs.Common.{◌≡◌, reverse, take}
use Rattle.cu_types.proofs.reading.take_last.Given as goal

abbrev pub invariant-loop-index : goal.invariant-loop-index
invariant-loop-index l = l.taken.items ≡ take l.index (reverse l.places.items)
