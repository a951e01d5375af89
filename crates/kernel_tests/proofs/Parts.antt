-- Parts of a program before lifting without types and functions.
use Rattle.std.proofs.Common.{◌≡◌, ℕ, List, [], Some, None, length, map, slice_get, sym, ap, ◌∙◌}
use Rattle.std.specs.List.{list_all}
use Rattle.cu_kernel.specs.KernelOf.{mark_meaning, synonym_meaning, type_meaning}
use Rattle.cu_kernel.specs.LocalKernel.{TopFunction}
use Rattle.cu_kernel.specs.LocalKernelOf.{local_kernel_of, top_function_meaning}
use Rattle.cu_kernel.specs.LocalValid.{IsPart, IsScoped, captures_nothing, is_data_type, is_synonym}
use Rattle.cu_kernel.specs.declared.local_program.LocalParts.{LocalParts}

nothing_there : (k : ℕ) (f : TopFunction) → slice_get [] k ≡ Some f → ⊥
nothing_there k f found = cc

none_there : (fs : List TopFunction) → fs ≡ [] → (k : ℕ) (f : TopFunction) → slice_get fs k ≡ Some f → IsScoped f
none_there fs none k f found = absurd (nothing_there k f (ap (λ gs. slice_get gs k) (sym none) ∙ found))

pub no_functions : (parts : LocalParts) → parts.types.items ≡ [] → parts.functions.items ≡ [] → parts.synonyms.items ≡ [] → parts.marks.items ≡ []
    → IsPart (local_kernel_of parts)
no_functions parts types functions synonyms marks = record {
  types = ap (λ ts. list_all is_data_type (map type_meaning ts)) types;
  synonyms = ap (λ ss. list_all is_synonym (map synonym_meaning ss)) synonyms;
  functions = none_there (map top_function_meaning parts.functions.items) (ap (map top_function_meaning) functions);
  marks = ap (λ ms. length (map mark_meaning ms)) marks ∙ sym (ap (λ fs. length (map top_function_meaning fs)) functions);
  uncaptured = ap (λ ms. list_all captures_nothing (map mark_meaning ms)) marks;
}
