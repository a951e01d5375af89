use Rattle.std.proofs.Common.{◌≡◌, drop, map}
use Rattle.std.specs.List.{list_all}
use Rattle.cu_kernel.specs.KernelOf.{synonym_meaning}
use Rattle.cu_kernel.specs.LocalKernelOf.{local_kernel_of}
use Rattle.cu_kernel.specs.LocalValid.{synonym_is_placed}
use Rattle.cu_parts.proofs.type_names.synonyms_are_placed.Given as goal

-- the synonyms that are left pass where all do
abbrev pub invariant-loop-synonym : goal.invariant-loop-synonym
invariant-loop-synonym l = list_all (synonym_is_placed (local_kernel_of l.parts)) (map synonym_meaning (drop l.synonym-index l.synonyms)) ≡ list_all (synonym_is_placed (local_kernel_of l.parts)) (map synonym_meaning l.synonyms)
