use Rattle.std.proofs.Common.{◌≡◌, ◌++◌}
use Rattle.std.specs.List.{All}
use Rattle.std.specs.Vec.Iter.{into_iter_items}
use Rattle.cu_modules.specs.Ordering.{modules_of}
use Rattle.cu_modules.specs.Reading.{HasModule}
use Rattle.cu_modules.specs.Walk.{built_in_first}
use Rattle.cu_modules.proofs.OrderLemmas.{Sorts}
use Rattle.cu_modules.proofs.ordering.built_in_first.Given as goal

abbrev pub invariant-modules : goal.invariant-modules
invariant-modules l = Sorts l.fn.names l.fn.modules.items (into_iter_items l.module-iterator) l.built_in.items l.others.items

abbrev pub invariant-others : goal.invariant-others
invariant-others l = modules_of l.fn.names (l.built_in.items ++ into_iter_items l.module-iterator) ≡ built_in_first (modules_of l.fn.names l.fn.modules.items)
    × All (HasModule l.fn.names) (l.built_in.items ++ into_iter_items l.module-iterator)
