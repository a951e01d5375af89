use Rattle.std.proofs.Common.{refl, ap, map, ◌∙◌}
use Rattle.cu_kernel.proofs.HeadLemmas.{parts_program}
use Rattle.cu_kernel.specs.Kernel.{constructors_from}
use Rattle.cu_kernel.specs.KernelOf.{type_meaning}
use Rattle.cu_kernel.proofs.heads.Heads.new.Goals as goal

pub returns : goal.returns
returns c =
    parts_program c.as_slice-2.result c.in_ok-constructors.constructors _ c.args.parts.now c.as_slice-2.ensures.value
    (c.in_ok-constructors.ensures ∙ ap (λ ts. constructors_from 0 (map type_meaning ts)) c.as_slice.ensures.value) refl
