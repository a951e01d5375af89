use Rattle.std.proofs.Common.{◌≡◌, ◌++◌, map, take}
use Rattle.cu_kernel.specs.TypesOf.{type_of}
use Rattle.cu_types.proofs.reading.push_types.Given as goal
use Rattle.cu_types.specs.Inside.Tasks as step
use Rattle.cu_types.specs.Inside.Tasks.{step_of}

abbrev pub invariant-loop-term : goal.invariant-loop-term
invariant-loop-term l =
    map step_of l.tasks.items ≡ map step_of l.initial.tasks.items ++ map (λ t. step.Read (type_of t)) (take l.term-index l.types)
