use Rattle.std.proofs.Common.{map, ◌∙◌}
use Rattle.cu_kernel.specs.KernelOf.{function_meaning}
use Rattle.cu_deftree.proofs.CopiedParts.{with_other_functions}
use Rattle.cu_deftree.proofs.lowered_program.with_functions.Goals as goal

pub returns : goal.returns
returns c =
    with_other_functions c.args.program.now _ (map function_meaning c.args.functions.items) _ _ _ _ c.special.result.now
    (c.in_ok-types.ensures ∙ c.types.ensures.types) (c.in_ok-synonyms.ensures ∙ c.synonyms.ensures.synonyms)
    (c.in_ok-modules.ensures ∙ c.modules.ensures.modules) (c.in_ok-marks.ensures ∙ c.marks.ensures.marks)
    (c.in_ok-goal.ensures ∙ c.goal.ensures.goal) c.special.ensures.special
