use Rattle.cu_types.proofs.BuiltInLemmas.{values_none, values_some}
use Rattle.cu_types.proofs.builtin.values_place.Goals as goal

pub returns-in-Some : goal.returns-in-Some
returns-in-Some c =
    values_some c.args.program.now c.special.result.now c.in-Some.constructor c.type_place.result c.special.ensures.special c.in-Some.is
    c.type_place.ensures

pub returns-in-None : goal.returns-in-None
returns-in-None c = values_none c.args.program.now c.special.result.now c.special.ensures.special c.in-None.is
