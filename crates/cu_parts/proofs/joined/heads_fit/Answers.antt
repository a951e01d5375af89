use Rattle.std.proofs.Common.{◌∙◌, List, ap, map, refl}
use Rattle.cu_kernel.specs.Kernel.{constructors_from, plain_function}
use Rattle.cu_kernel.specs.KernelOf.{function_meaning, type_meaning}
use Rattle.cu_kernel.specs.LocalKernelOf.{top_function_meaning}
use Rattle.cu_kernel.specs.LocalValid.{without_rules}
use Rattle.cu_kernel.specs.declared.declarations.DataType.{DataType}
use Rattle.cu_kernel.specs.declared.local.TopFunction.{TopFunction}
use Rattle.cu_kernel.specs.declared.term.Function.{Function}
use Rattle.cu_parts.proofs.JoinedLemmas.{parts_heads}
use Rattle.cu_parts.proofs.joined.heads_fit.Goals as goal

pub all_fit-requires : goal.all_fit-requires
all_fit-requires c =
    parts_heads c.as_slice-3.result c.in_ok-constructors.constructors _ c.args.parts.now
    (ap (λ (fs : List Function). map plain_function (map function_meaning fs)) c.as_slice-3.ensures.value ∙ c.in_ok-functions.ensures
    ∙ ap (λ (fs : List TopFunction). map without_rules (map top_function_meaning fs)) c.as_slice.ensures.value)
    (c.in_ok-constructors.ensures ∙ ap (λ (ts : List DataType). constructors_from 0 (map type_meaning ts)) c.as_slice-2.ensures.value)
    refl
