use Rattle.std.proofs.Common.{◌≡◌, drop, map}
use Rattle.std.specs.List.{list_all}
use Rattle.cu_kernel.proofs.declared.synonyms_fit.Given as goal
use Rattle.cu_kernel.specs.KernelOf.{kernel_of, synonym_meaning}
use Rattle.cu_kernel.specs.Valid.{fits_synonym}

-- the synonyms that are left fit where all do
abbrev pub invariant-loop-synonym : goal.invariant-loop-synonym
invariant-loop-synonym l =
    list_all (fits_synonym (kernel_of l.parts)) (map synonym_meaning (drop l.synonym-index l.synonyms))
    ≡ list_all (fits_synonym (kernel_of l.parts)) (map synonym_meaning l.synonyms)
