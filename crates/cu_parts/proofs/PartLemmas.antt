-- The tests decide whether parts are right by themselves.
use Rattle.std.proofs.Common.{◌≡◌, ◌↔◌, Err, IfOk, IsTrue, Ok, Result, Bool, true, length}
use Rattle.std.specs.List.{list_all}
use Rattle.std.specs.declared.alloc.AllocError.{AllocError}
use Rattle.cu_kernel.specs.LocalKernel.{LocalKernel}
use Rattle.cu_kernel.specs.LocalValid.{IsPart, captures_nothing, is_data_type, is_synonym}
use Rattle.cu_parts.specs.Inside.Scoping.{AreScoped}

-- the last test decides
pub part_decided : (kernel : LocalKernel) (result : Result Bool AllocError) → list_all is_data_type kernel.types ≡ true
    → list_all is_synonym kernel.synonyms ≡ true → length kernel.marks ≡ length kernel.functions → list_all captures_nothing kernel.marks ≡ true
    → IfOk result (λ fit. IsTrue fit ↔ AreScoped kernel.functions) → IfOk result (λ fit. IsTrue fit ↔ IsPart kernel)
part_decided kernel (Err e) types synonyms marks none fit = tt
part_decided kernel (Ok b) types synonyms marks none fit = (
  λ h. record { types = types; synonyms = synonyms; functions = fit.0 h; marks = marks; uncaptured = none },
  λ part. fit.1 part.functions,
)
