use Rattle.cu_types.proofs.BuiltInLemmas.{truth_none, truth_some}
use Rattle.cu_types.proofs.builtin.truth_type.Goals as goal

pub returns-in-Some : goal.returns-in-Some
returns-in-Some c =
    truth_some c.args.program.now c.special.result.now c.in-Some.placed c.special.ensures.special c.in-Some.ensures.constructor

pub returns-in-None : goal.returns-in-None
returns-in-None c = truth_none c.args.program.now c.special.result.now c.special.ensures.special c.in-None.ensures.constructor
