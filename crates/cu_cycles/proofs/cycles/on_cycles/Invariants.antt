use Rattle.std.proofs.Common.{◌≡◌, ◌↔◌, ℕ, Bool, IsTrue, Some, length, slice_get}
use Rattle.cu_cycles.specs.Graph.{LiesOnCycle, rows_in}
use Rattle.cu_cycles.proofs.cycles.on_cycles.Given as goal

abbrev pub invariant-loop-node : goal.invariant-loop-node
invariant-loop-node l =
    (length l.flags.items ≡ l.node) × ((u : ℕ) (flag : Bool) → slice_get l.flags.items u ≡ Some flag → (IsTrue flag ↔ LiesOnCycle (rows_in l.graph) u))
