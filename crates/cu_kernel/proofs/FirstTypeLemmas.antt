-- Fewer types than there are first ones.
use Rattle.std.proofs.Common.{◌≡◌, ◌<◌, false, ◌&&◌, List, [], ◌∷◌, arith, length, map, refl, ap, ◌∙◌}
use Rattle.cu_kernel.proofs.MarkLemmas.{not_both}
use Rattle.cu_kernel.specs.FirstTypes.{begin_with, is_like}
use Rattle.cu_kernel.specs.KernelOf.{type_meaning}
use Rattle.cu_kernel.specs.Inside.OutlineOf.{outline_meaning}
use Rattle.cu_kernel.specs.declared.declarations.DataType.{DataType}
use Rattle.cu_kernel.specs.declared.first_types.Outline.{Outline}

pub too_few_types : (os : List Outline) (ts : List DataType) → length ts < length os
    → false ≡ begin_with (map outline_meaning os) (map type_meaning ts)
too_few_types [] ts fewer = absurd (omega (arith, fewer))
too_few_types (o ∷ os) [] fewer = refl
too_few_types (o ∷ os) (t ∷ ts) fewer =
    let first = is_like (outline_meaning o) (type_meaning t) in
    not_both first ∙ ap (λ b. first && b) (too_few_types os ts (omega (arith, fewer)))
