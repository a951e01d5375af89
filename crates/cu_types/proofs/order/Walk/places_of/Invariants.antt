use Rattle.std.proofs.Common.{◌≡◌, map, take}
use Rattle.cu_types.proofs.order.Walk.places_of.Given as goal
use Rattle.cu_types.specs.Inside.Ordering.{class_of, place_of, state_of}

abbrev pub invariant-loop-argument : goal.invariant-loop-argument
invariant-loop-argument l =
    l.found.items ≡ map (λ a. place_of (state_of l.self.states.items (class_of l.classes a))) (take l.argument-index l.arguments)
