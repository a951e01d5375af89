use Rattle.std.proofs.Common.{◌≡◌, map, take}
use Rattle.cu_kernel.specs.KernelOf.{synonym_meaning}
use Rattle.cu_types.proofs.synonyms.expanded_bodies.Given as goal
use Rattle.cu_types.specs.Synonyms.{expanded_by}
use Rattle.cu_types.specs.Table.{at}

abbrev pub invariant-loop-synonym : goal.invariant-loop-synonym
invariant-loop-synonym l =
    l.next.items ≡ map (λ s. expanded_by (at l.synonyms) (synonym_meaning s).body) (take l.synonym-index l.declared)
