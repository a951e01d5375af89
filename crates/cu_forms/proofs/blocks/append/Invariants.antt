use Rattle.std.proofs.Common.{◌≡◌, ◌++◌}
use Rattle.std.specs.Vec.Iter.{into_iter_items}
use Rattle.cu_forms.proofs.blocks.append.Given as goal

abbrev pub invariant-loop-bound : goal.invariant-loop-bound
invariant-loop-bound l = l.bounds.items ++ into_iter_items l.bound-iterator ≡ l.fn.bounds.items ++ l.fn.more.items
