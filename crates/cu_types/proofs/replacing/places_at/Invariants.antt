use Rattle.std.proofs.Common.{◌≡◌, map, slice_index, take}
use Rattle.cu_types.proofs.replacing.places_at.Given as goal

abbrev pub invariant-loop-argument : goal.invariant-loop-argument
invariant-loop-argument l = l.found.items ≡ map (λ a. slice_index l.places a) (take l.argument-index l.arguments)
