use Rattle.std.proofs.Common.{◌≡◌, ◌++◌}
use Rattle.std.specs.Vec.Iter.{into_iter_items}
use Rattle.cu_crwl.proofs.matching.append.Given as goal

abbrev pub invariant-loop-binding : goal.invariant-loop-binding
invariant-loop-binding l = l.bindings.items ++ into_iter_items l.binding-iterator ≡ l.fn.bindings.items ++ l.fn.more.items
