use Rattle.std.proofs.Common.{◌≡◌, ◌++◌}
use Rattle.std.specs.List.{filter}
use Rattle.std.specs.Vec.Iter.{into_iter_items}
use Rattle.cu_translation.specs.Meaning.{binder_meaning}
use Rattle.cu_forms.specs.Inside.Blocks.{bounds_meaning, is_of_other}
use Rattle.cu_forms.proofs.blocks.others.Given as goal

abbrev pub invariant-loop-bound : goal.invariant-loop-bound
invariant-loop-bound l =
    bounds_meaning l.found.items ++ filter (is_of_other (binder_meaning l.variable)) (bounds_meaning (into_iter_items l.bound-iterator))
    ≡ filter (is_of_other (binder_meaning l.variable)) (bounds_meaning l.fn.bounds.items)
