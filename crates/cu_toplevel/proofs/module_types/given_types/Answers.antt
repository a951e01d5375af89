use Rattle.std.proofs.Common.{◌∙◌, ap, map}
use Rattle.cu_kernel.specs.KernelOf as code
use Rattle.cu_translation.specs.ModuleTypes.{first_types}
use Rattle.cu_toplevel.proofs.ModuleTypeLemmas.{given_there, not_given_there}
use Rattle.cu_toplevel.proofs.TypeLemmas.{if_ok}
use Rattle.cu_toplevel.proofs.module_types.given_types.Goals as goal

pub returns-then-is_prelude : goal.returns-then-is_prelude
returns-then-is_prelude c = λ names r has.
    if_ok c.first_types.result (λ made is. is ∙ given_there r.m.name (first_types r) c.is_prelude.result c.if-is_prelude.true (c.is_prelude.ensures names r has)) (c.first_types.ensures names r has)

pub returns : goal.returns
returns c = λ names r has.
    ap (map code.type_meaning) c.new.ensures.items ∙ not_given_there r.m.name (first_types r) c.is_prelude.result c.if-is_prelude.false (c.is_prelude.ensures names r has)
