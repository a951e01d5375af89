use Rattle.std.proofs.Common.{◌≡◌}
use Rattle.cu_types.proofs.synonyms.synonym_types.Given as goal
use Rattle.cu_types.specs.Synonyms.{bodies}
use Rattle.cu_types.specs.Table.{at}

-- what the synonyms stand for, where they are named by one another at most so deep
abbrev pub invariant-loop-depth : goal.invariant-loop-depth
invariant-loop-depth l = at l.types.items ≡ bodies l.program l.depth
