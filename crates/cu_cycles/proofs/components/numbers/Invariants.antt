use Rattle.std.proofs.Common.{◌≡◌, ◌++◌, drop, map}
use Rattle.cu_cycles.specs.Inside.Search.{number_of}
use Rattle.cu_cycles.proofs.components.numbers.Given as goal

abbrev pub invariant-loop-place : goal.invariant-loop-place
invariant-loop-place l = l.found.items ++ map number_of (drop l.place-index l.places) ≡ map number_of l.places
