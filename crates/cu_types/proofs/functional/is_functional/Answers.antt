use Rattle.std.proofs.Common.{ap, sym, ◌∙◌}
use Rattle.std.specs.Option.{option_map}
use Rattle.cu_kernel.specs.KernelOf.{goal_meaning}
use Rattle.cu_types.proofs.FunctionalLemmas.{functional_none}
use Rattle.cu_types.proofs.functional.is_functional.Goals as goal

pub returns-in-None : goal.returns-in-None
returns-in-None c =
    functional_none c.args.types.now c.args.program.now.goal (goal_meaning c.in-Some.goal.now)
    (sym c.goal.ensures.goal ∙ ap (option_map (λ goal. goal_meaning goal.now)) c.in-Some.is) c.in-None.ensures.lookup.3
