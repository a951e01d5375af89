use Rattle.std.proofs.Common.{◌∙◌, List, ap, map}
use Rattle.std.specs.List.{list_all}
use Rattle.cu_kernel.specs.Heads as table
use Rattle.cu_kernel.specs.LocalKernelOf.{local_kernel_of, top_function_meaning}
use Rattle.cu_kernel.specs.LocalValid.{function_fits}
use Rattle.cu_kernel.specs.declared.local.TopFunction.{TopFunction}
use Rattle.cu_parts.proofs.JoinedLemmas.{heads_both}
use Rattle.cu_parts.proofs.joined.all_fit.Goals as goal

pub returns-then-has_entities : goal.returns-then-has_entities
returns-then-has_entities c =
    let kernel = local_kernel_of c.args.parts.now in
    heads_both kernel (table.heads_program c.args.heads.now) c.has_entities.result c.functions_fit.result c.requires c.has_entities.ensures c.if-has_entities.true
    (c.functions_fit.ensures ∙ ap (λ (fs : List TopFunction). list_all (function_fits kernel) (map top_function_meaning fs)) c.as_slice.ensures.value)
