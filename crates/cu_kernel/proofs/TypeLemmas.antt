-- Types in a list of their own, and in a plain list.
use Rattle.std.proofs.Common.{◌≡◌, ℕ, Bool, List, [], ◌∷◌, ◌&&◌, map, refl, ap}
use Rattle.std.specs.List.{list_all}
use Rattle.cu_kernel.specs.Kernel.{Kernel}
use Rattle.cu_kernel.specs.TypesOf.{type_of, types_of}
use Rattle.cu_kernel.specs.Valid.{fit_types, fits_type}
use Rattle.cu_kernel.specs.declared.type_term.TypeTerm.{TypeTerm}

pub fit_types-types_of : (kernel : Kernel) (may : ℕ → Bool) (ts : List TypeTerm)
    → fit_types kernel may (types_of ts) ≡ list_all (fits_type kernel may) (map type_of ts)
fit_types-types_of kernel may [] = refl
fit_types-types_of kernel may (t ∷ ts) = ap (λ b. fits_type kernel may (type_of t) && b) (fit_types-types_of kernel may ts)

pub ruleset listed_types = (fit_types-types_of)
