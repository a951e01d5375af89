use Rattle.std.proofs.Common.{◌≡◌, ◌∙◌, List, ap, map, subst, sym}
use Rattle.std.specs.Prelude.{IfOk}
use Rattle.cu_kernel.specs.LocalKernel.{TopFunction}
use Rattle.cu_kernel.specs.LocalKernelOf.{top_function_meaning}
use Rattle.cu_translation.specs.Externals.{externals}
use Rattle.cu_translation.specs.Functions.{external_function}
use Rattle.cu_toplevel.proofs.PreludeLemmas.{elsewhere, in_prelude, same_table}
use Rattle.cu_toplevel.proofs.externals.external_functions.Goals as goal

pub returns-then-is_prelude : goal.returns-then-is_prelude
returns-then-is_prelude c = λ names r is.
    let prelude = sym (c.is_prelude.ensures names r is) ∙ c.if-is_prelude.true in
    subst (λ (all : List TopFunction). IfOk c.functions.result (λ made. map top_function_meaning made.items ≡ all))
    (ap (λ table. map (external_function table) externals) (same_table names r c.args.reading.now is) ∙ in_prelude r.m.name (map (external_function r.table) externals) prelude) c.functions.ensures

pub returns-else-is_prelude : goal.returns-else-is_prelude
returns-else-is_prelude c = λ names r is.
    ap (map top_function_meaning) c.new.ensures.items ∙ elsewhere r.m.name (map (external_function r.table) externals) (sym (c.is_prelude.ensures names r is) ∙ c.if-is_prelude.false)
