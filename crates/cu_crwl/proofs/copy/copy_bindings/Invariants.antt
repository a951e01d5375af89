use Rattle.std.proofs.Common.{◌≡◌, ◌++◌, drop}
use Rattle.cu_crwl.proofs.copy.copy_bindings.Given as goal

abbrev pub invariant-loop-binding : goal.invariant-loop-binding
invariant-loop-binding l = l.copies.items ++ drop l.binding-index l.bindings ≡ l.bindings
