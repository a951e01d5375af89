use Rattle.std.proofs.Common.{◌≡◌, ◌++◌, map}
use Rattle.std.specs.Vec.Iter.{into_iter_items}
use Rattle.cu_types.proofs.inference.kept_types.Given as goal
use Rattle.cu_types.specs.Inside.Knowing.{kept_type}

abbrev pub invariant-loop-own : goal.invariant-loop-own
invariant-loop-own l = l.types.items ++ map kept_type (into_iter_items l.own-iterator) ≡ map kept_type l.fn.known.items
