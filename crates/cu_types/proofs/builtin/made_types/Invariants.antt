use Rattle.std.proofs.Common.{◌≡◌, ◌++◌, drop, map}
use Rattle.cu_kernel.specs.KernelOf.{type_meaning}
use Rattle.cu_types.proofs.builtin.made_types.Given as goal
use Rattle.cu_types.specs.Inside.Building.{made_types}
use Rattle.cu_types.specs.Table.{at}

-- what was found, and what is left, is the whole
abbrev pub invariant-loop-place : goal.invariant-loop-place
invariant-loop-place l =
    l.found.items ++ made_types (at l.synonyms) l.place (map type_meaning (drop l.place l.types))
    ≡ made_types (at l.synonyms) 0 (map type_meaning l.types)
