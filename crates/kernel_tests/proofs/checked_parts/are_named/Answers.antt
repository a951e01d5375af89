use Rattle.std.proofs.Common.{◌∙◌, List, ap, map}
use Rattle.std.specs.List.{list_all}
use Rattle.cu_kernel.specs.LocalKernel as kernel
use Rattle.cu_kernel.specs.LocalKernelOf.{top_function_meaning}
use Rattle.cu_kernel.specs.declared.local.TopFunction.{TopFunction}
use Rattle.kernel_tests.proofs.NameLemmas.{are_named}
use Rattle.kernel_tests.specs.Inside.Naming.{has_name}
use Rattle.kernel_tests.proofs.checked_parts.are_named.Goals as goal

pub returns : goal.returns
returns c =
    are_named c.args.names.now c.args.program.now (map top_function_meaning c.parts-parts.result.now.functions.items) c.count.result c.have_names.result
    c.count.ensures.count (ap (λ (k : kernel.LocalKernel). k.functions) c.parts-parts.ensures.parts)
    (c.have_names.ensures ∙ ap (λ (fs : List TopFunction). list_all (has_name c.count.result) (map top_function_meaning fs)) c.as_slice.ensures.value)
