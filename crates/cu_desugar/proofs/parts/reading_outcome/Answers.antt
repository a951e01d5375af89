use Rattle.std.proofs.Common.{map}
use Rattle.cu_kernel.specs.LocalKernelOf.{local_kernel_of, top_function_meaning}
use Rattle.cu_translation.specs.Numbered.{groups_in}
use Rattle.cu_desugar.proofs.TranslatedLemmas.{module_refused, module_translated, under_its_table}
use Rattle.cu_desugar.proofs.parts.reading_outcome.Goals as goal

pub returns-in-Some : goal.returns-in-Some
returns-in-Some c t modules r reads entities texts =
    let tells = c.names-top.ensures t.names r reads in
    module_refused t.owner modules r c.in_ok-refused.refused c.in-Some.fault c.in-Some.is (c.in_ok-refused.ensures t r.names (groups_in r.m) tells texts)

pub returns-in_ok-parts-in-None : goal.returns-in_ok-parts-in-None
returns-in_ok-parts-in-None c t modules r reads entities texts =
    let tells = c.names-top.ensures t.names r reads in
    let functions = under_its_table t.names r.table r.names (groups_in r.m) (map top_function_meaning c.in_ok-functions-in-None.functions.items) reads.table
    (c.in_ok-functions-in-None.ensures t r.names (groups_in r.m) tells texts) in
    module_translated t.owner modules r c.in_ok-refused.refused (local_kernel_of c.in_ok-parts-in-None.parts) c.in-None.is
    (c.in_ok-refused.ensures t r.names (groups_in r.m) tells texts) (c.in_ok-parts-in-None.ensures t.names modules r reads entities functions)
