use Rattle.std.proofs.Common.{◌↔◌, ◌∙◌, IfOk, IsTrue, ap, map, subst, sym}
use Rattle.cu_kernel.specs.FirstTypes.{has_first_types}
use Rattle.cu_kernel.specs.KernelOf.{type_meaning}
use Rattle.cu_kernel.specs.LocalKernel.{LocalKernel}
use Rattle.cu_kernel.specs.LocalKernelOf.{local_kernel_of}
use Rattle.cu_kernel.specs.LocalValid.{IsJoined}
use Rattle.cu_parts.proofs.JoinedLemmas.{joined_decided}
use Rattle.cu_parts.proofs.joined.is_joined.Goals as goal

pub returns : goal.returns
returns c =
    let parts = c.parts-parts.result.now in
    let first = ap (λ ts. has_first_types parts.special (map type_meaning ts)) c.as_slice.ensures.value in
    record {
      decides = subst (λ (k : LocalKernel). IfOk c.heads_fit.result (λ fit. IsTrue fit ↔ IsJoined k)) c.parts-parts.ensures.parts
          (joined_decided (local_kernel_of parts) c.heads_fit.result (sym c.if-not-begins.ensures) (sym first ∙ sym c.if-not-has_first_types.ensures)
          (sym c.if-not-names_fit.ensures) c.heads_fit.ensures);
    }
