-- Marks that are more or fewer than the functions don't fit.
use Rattle.std.proofs.Common.{◌≡◌, suc, Bool, false, true, ◌&&◌, List, [], ◌∷◌, length, map, refl, ap, ◌∙◌}
use Rattle.cu_kernel.specs.Kernel.{Kernel}
use Rattle.cu_kernel.specs.KernelOf.{function_meaning, mark_meaning}
use Rattle.cu_kernel.specs.Valid.{fit_marks, fits_mark}
use Rattle.cu_kernel.specs.declared.declarations.Mark.{Mark}
use Rattle.cu_kernel.specs.declared.term.Function.{Function}

pub not_both : (b : Bool) → false ≡ (b && false)
not_both false = refl
not_both true = refl

pub unmatched_marks : (kernel : Kernel) (ms : List Mark) (fs : List Function) → (length ms ≡ length fs → ⊥)
    → false ≡ fit_marks kernel (map mark_meaning ms) (map function_meaning fs)
unmatched_marks kernel [] [] differ = absurd (differ refl)
unmatched_marks kernel (m ∷ ms) [] differ = refl
unmatched_marks kernel [] (f ∷ fs) differ = refl
unmatched_marks kernel (m ∷ ms) (f ∷ fs) differ =
    let first = fits_mark kernel (mark_meaning m) (function_meaning f) in
    not_both first ∙ ap (λ b. first && b) (unmatched_marks kernel ms fs (λ same. differ (ap (λ n. suc n) same)))
