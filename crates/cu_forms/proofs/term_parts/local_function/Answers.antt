use Rattle.std.proofs.Common.{◌∙◌, ap, ap₂}
use Rattle.cu_kernel.specs.LocalTerm as kernel
use Rattle.cu_kernel.specs.LocalTermsOf.{local_term_of-Part, local_terms_of}
use Rattle.cu_kernel.specs.declared.local.LocalHead.TheVariants as head
use Rattle.cu_forms.proofs.term_parts.local_function.Goals as goal

pub returns : goal.returns
returns g c w tells =
    local_term_of-Part (head.Local c.function-function.result) c.new.result
    ∙ ap₂ (λ n ts. kernel.Part (head.Local n) (local_terms_of ts)) (c.function-function.ensures w tells ∙ ap w.around.numbers.function c.of.ensures) c.new.ensures.items
