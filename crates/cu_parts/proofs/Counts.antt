-- As many terms before lifting as their list has.
use Rattle.std.proofs.Common.{◌≡◌, ◌+◌, List, [], ◌∷◌, length, refl, ap, add-one, ◌∙◌}
use Rattle.cu_kernel.specs.LocalTermsOf.{local_terms_of}
use Rattle.cu_kernel.specs.LocalValid.{term_count}
use Rattle.cu_kernel.specs.declared.local.LocalTerm.{LocalTerm}

pub term_count-local_terms_of : (ts : List LocalTerm) → term_count (local_terms_of ts) ≡ length ts
term_count-local_terms_of [] = refl
term_count-local_terms_of (t ∷ ts) = ap (λ n. n + 1) (term_count-local_terms_of ts) ∙ add-one (length ts)

pub ruleset counts = (term_count-local_terms_of)
