use Rattle.std.proofs.Common.{◌≡◌, drop, map}
use Rattle.std.specs.List.{list_all}
use Rattle.cu_kernel.specs.KernelOf.{synonym_meaning}
use Rattle.cu_kernel.specs.LocalValid.{is_synonym}
use Rattle.cu_parts.proofs.type_variables.are_synonyms.Given as goal

-- the synonyms that are left pass where all do
abbrev pub invariant-loop-synonym : goal.invariant-loop-synonym
invariant-loop-synonym l = list_all is_synonym (map synonym_meaning (drop l.synonym-index l.synonyms)) ≡ list_all is_synonym (map synonym_meaning l.synonyms)
