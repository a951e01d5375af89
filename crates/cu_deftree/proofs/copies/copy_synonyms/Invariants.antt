use Rattle.std.proofs.Common.{◌≡◌, ◌++◌, drop, map}
use Rattle.cu_kernel.specs.KernelOf.{synonym_meaning}
use Rattle.cu_deftree.proofs.copies.copy_synonyms.Given as goal

-- the copies and what is left are all
abbrev pub invariant-loop-synonym : goal.invariant-loop-synonym
invariant-loop-synonym l = map synonym_meaning l.copies.items ++ map synonym_meaning (drop l.synonym-index l.synonyms) ≡ map synonym_meaning l.synonyms
