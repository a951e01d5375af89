use Rattle.std.proofs.Common.{◌≡◌, ◌<◌, ℕ, Some, slice_get}
use Rattle.cu_cycles.specs.Graph.{rows_in}
use Rattle.cu_cycles.specs.Inside.Search.{Rests}
use Rattle.cu_cycles.specs.declared.components.Place.TheVariants.{New}
use Rattle.cu_cycles.proofs.components.find_components.Given as goal

abbrev pub invariant-loop-node : goal.invariant-loop-node
invariant-loop-node l = Rests (rows_in l.graph) l.search × ((v : ℕ) → v < l.node → slice_get l.search.places.items v ≡ Some New → ⊥)
